use Rattle.syncord_endings.proofs.telling.tell_refusal.Goals as goal

pub returns-in-Line : goal.returns-in-Line
returns-in-Line g c = rw c.in-Line.is c.tell_line.ensures

pub returns-in-Program : goal.returns-in-Program
returns-in-Program g c = rw c.in-Program.is (rw c.from.ensures at c.tell_number.ensures)

pub returns-in-Slot : goal.returns-in-Slot
returns-in-Slot g c = rw c.in-Slot.is c.tell_slot.ensures

pub returns-in-Register : goal.returns-in-Register
returns-in-Register g c = rw c.in-Register.is c.tell_register.ensures
