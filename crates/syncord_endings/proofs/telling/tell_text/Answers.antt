use Rattle.syncord_endings.proofs.Parts.{told}
use Rattle.syncord_endings.proofs.telling.tell_text.Goals as goal

pub returns : goal.returns
returns g c = told _ _ _ _ _ _ c.begin-all.ensures
