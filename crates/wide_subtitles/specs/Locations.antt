-- What follows from a line.
use Rattle.std.specs.Prelude.{Option, Some, None}
use Rattle.wide_subtitles.specs.declared.kinds.Kind.{Kind}
use Rattle.wide_subtitles.specs.declared.kinds.Kind.TheVariants.{Blank, Number, Times as TimesKind, Broken, Text as TextKind}
use Rattle.wide_subtitles.specs.declared.location.Finding.{Finding}
use Rattle.wide_subtitles.specs.declared.location.Finding.TheVariants.{NoNumber, NoSeparator, NotNumber, NotTimes}
use Rattle.wide_subtitles.specs.declared.location.Location.{Location}
use Rattle.wide_subtitles.specs.declared.location.Location.TheVariants.{Start, Times, Text}

-- What is said of a line: at the start of a subtitle, behind its number, and behind its times.
abbrev pub finding_after : Location → Kind → Option Finding
finding_after Start Blank = None
finding_after Start Number = None
finding_after Start (TimesKind times) = Some NoNumber
finding_after Start (Broken unit) = Some (NotTimes unit)
finding_after Start TextKind = Some NotNumber
finding_after Times Blank = Some (NotTimes 0)
finding_after Times Number = Some (NotTimes 0)
finding_after Times (TimesKind times) = None
finding_after Times (Broken unit) = Some (NotTimes unit)
finding_after Times TextKind = Some (NotTimes 0)
finding_after Text Blank = None
finding_after Text Number = None
finding_after Text (TimesKind times) = Some NoSeparator
finding_after Text (Broken unit) = Some (NotTimes unit)
finding_after Text TextKind = None

-- Where the next line is: an empty line ends a subtitle, times begin one, and a number does if none has begun.
abbrev pub next_after : Location → Kind → Location
next_after Start Blank = Start
next_after Start Number = Times
next_after Start (TimesKind times) = Text
next_after Start (Broken unit) = Text
next_after Start TextKind = Text
next_after Times Blank = Start
next_after Times Number = Text
next_after Times (TimesKind times) = Text
next_after Times (Broken unit) = Text
next_after Times TextKind = Text
next_after Text Blank = Start
next_after Text Number = Text
next_after Text (TimesKind times) = Text
next_after Text (Broken unit) = Text
next_after Text TextKind = Text
