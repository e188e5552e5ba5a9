-- What arguments ask for.
use Rattle.std.specs.Prelude.{◌≡◌, ◌≤◌, ℕ, [], None}
use Rattle.wideconv_command.specs.declared.request.Asked.{Asked}
use Rattle.wideconv_command.specs.declared.request.Asked.TheVariants.{Texts, List, Help, Version}
use Rattle.wideconv_command.specs.declared.request.Request.{Request}
use Rattle.wideconv_command.specs.declared.request.Step.{Step}
use Rattle.wideconv_command.specs.declared.request.Step.TheVariants.{Option, Last}

-- The request is one of standard input, and of standard output if it writes a text.
abbrev pub IsOfStreams : Request → Asked → Type 0
IsOfStreams request (Texts r files) = (r ≡ request) × (files.now ≡ []) × (r.output ≡ None)
IsOfStreams request List = ⊥
IsOfStreams request Help = ⊥
IsOfStreams request Version = ⊥

-- An option has at most so many arguments.
abbrev pub IsWithin : ℕ → Step → Type 0
IsWithin most (Option request count) = count ≤ most
IsWithin most (Last answer) = Unit {0}
