-- The numbers of the refusals.
use Rattle.std.specs.Prelude.{ℕ}
use Rattle.indicatif_text.specs.declared.refusal.Refusal.{Refusal}
use Rattle.indicatif_text.specs.declared.refusal.Refusal.TheVariants.{ZeroRate, FewTicks, FewProgressChars, UnequalWidths, ZeroWidthChars, Template, WidthTooLarge, ForeignBar, NotMember, ElapsedBeyondClock, NoColumns, TooWide, Terminal, Memory, ZeroSize, ZeroPieces, RecordedTarget}

-- the number of a refusal, in the order of their list
abbrev pub refusal_number : Refusal → ℕ
refusal_number ZeroRate = 1
refusal_number FewTicks = 2
refusal_number FewProgressChars = 3
refusal_number UnequalWidths = 4
refusal_number ZeroWidthChars = 5
refusal_number (Template next state) = 6
refusal_number WidthTooLarge = 7
refusal_number ForeignBar = 8
refusal_number NotMember = 9
refusal_number ElapsedBeyondClock = 10
refusal_number NoColumns = 11
refusal_number TooWide = 12
refusal_number (Terminal kind) = 13
refusal_number Memory = 14
refusal_number ZeroSize = 15
refusal_number ZeroPieces = 16
refusal_number RecordedTarget = 17
