-- A sink that remembers why it failed, and tells how much was written.
use Rattle.wideconv_command.specs.declared.output.Output.{Output}

-- The sink below, which takes the bytes.
abbrev pub sink_of : {K P : Type 0} → Output K P → K
sink_of output = output.sink
