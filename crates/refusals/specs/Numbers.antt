-- The numbers of the refusals. 01, "Sent back because of the sheet", "Sent back because of the book"; 02.
-- Assumes nothing.
use Rattle.std.specs.Prelude.{ℕ}
use Rattle.refusals.specs.declared.Refusal.{Refusal}
use Rattle.refusals.specs.declared.Refusal.TheVariants.{SheetLength, UnknownCode, OutOfRange, NotZero, NoDrivingDifference, InvalidAim, NotCylinder, NoneSufficient, TooClose, BookSize, CountAboveCapacity, NoSuchEntry, BookFull, EntryUnsound, RateOrTerm, ShareUndecided}

abbrev pub number_of : Refusal → ℕ
number_of SheetLength = 11
number_of UnknownCode = 12
number_of OutOfRange = 13
number_of NotZero = 14
number_of NoDrivingDifference = 15
number_of InvalidAim = 16
number_of NotCylinder = 43
number_of NoneSufficient = 17
number_of TooClose = 18
number_of BookSize = 31
number_of CountAboveCapacity = 32
number_of NoSuchEntry = 33
number_of BookFull = 34
number_of EntryUnsound = 35
number_of RateOrTerm = 41
number_of ShareUndecided = 42
