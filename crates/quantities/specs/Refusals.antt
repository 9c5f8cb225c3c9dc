-- The numbers of the refusals. Assumes nothing.
use Rattle.std.specs.Prelude.{ℕ}
use Rattle.quantities.specs.declared.refusal.Refusal.{Refusal}
use Rattle.quantities.specs.declared.refusal.Refusal.TheVariants.{WrongSheetLength, BytesEndInRecord, NoSuchPlace, NoSuchDay, NotAPeriod, ShareNotAllowed, RowFull, DoesNotFollow, OutsideSpan, RunOutsidePeriod, EmptyMap, RecordOutOfOrder, ReadingTooLarge, BitForZero, BytesAfterRecord, SheetDoesNotFit, SpanLacksDay, BufferTooShort, QuarterHoursLeft}

abbrev pub number : Refusal → ℕ
number WrongSheetLength = 1
number BytesEndInRecord = 2
number NoSuchPlace = 3
number NoSuchDay = 4
number NotAPeriod = 5
number ShareNotAllowed = 6
number RowFull = 7
number DoesNotFollow = 8
number OutsideSpan = 9
number RunOutsidePeriod = 10
number EmptyMap = 11
number RecordOutOfOrder = 12
number ReadingTooLarge = 13
number BitForZero = 14
number BytesAfterRecord = 15
number SheetDoesNotFit = 16
number SpanLacksDay = 17
number BufferTooShort = 18
number QuarterHoursLeft = 19
