-- Document 01, "Refusal table": the number of each refusal.
-- Assumes nothing.
use Rattle.std.specs.Prelude.{ℕ}
use Rattle.base.specs.declared.Refusal.{Refusal}
use Rattle.base.specs.declared.Refusal.TheVariants.{Length, Check, Header, Slot, Record, Zero, Instruction, Absent, Inside, Full, Closed, Empty, NoRing, Ceiling, Buffer, Unsound, Input}

abbrev pub number_of : Refusal → ℕ
number_of Length = 1
number_of Check = 2
number_of Header = 3
number_of Slot = 4
number_of Record = 5
number_of Zero = 6
number_of Instruction = 7
number_of Absent = 8
number_of Inside = 9
number_of Full = 10
number_of Closed = 11
number_of Empty = 12
number_of NoRing = 13
number_of Ceiling = 14
number_of Buffer = 15
number_of Unsound = 16
number_of Input = 17
