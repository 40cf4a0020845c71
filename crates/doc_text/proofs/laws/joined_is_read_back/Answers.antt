use Rattle.std.proofs.Common.{ap}
use Rattle.std.specs.Result.{result_ok}
use Rattle.hex.proofs.HexLemmas.{decode_of-encode_lower}
use Rattle.doc_text.proofs.Joining.{pieces-lines, text_in-ended, words-spaced}
use Rattle.doc_text.proofs.laws.joined_is_read_back.Goals as goal

pub returns-clause-lines : goal.returns-clause-lines
returns-clause-lines c = pieces-lines

pub returns-clause-text : goal.returns-clause-text
returns-clause-text c = text_in-ended

pub returns-clause-words : goal.returns-clause-words
returns-clause-words c = words-spaced

pub returns-clause-digits : goal.returns-clause-digits
returns-clause-digits c = λ bytes h. ap result_ok (decode_of-encode_lower bytes h)
