-- The lines that the subcommands `ends` and `edit` write.
use Rattle.std.specs.Prelude.{ℕ, ◌-◌, false, true, List, [], ◌∷◌, ◌++◌, length, replicate, codes, Option, Some, None}
use Rattle.std.specs.Char.Escape.{escape_default}
use Rattle.std.specs.Fmt.{digits}
use Rattle.std.specs.List.{flat_map}
use Rattle.wide_forms.specs.EncodingForm.{Utf16, Utf32, encode}
use Rattle.wide_forms.specs.Items.{items}
use Rattle.wide_forms.specs.Segmentation.{Item, Char, Fault}
use Rattle.wide_forms.specs.Utf8.{utf8}
use Rattle.wide_iter.specs.Answers.{answers}
use Rattle.wide_iter.specs.declared.ends.End.{End}
use Rattle.wide_edit.specs.Step as step
use Rattle.wide_edit.specs.declared.edits.Edit.{Edit}

-- A number in upper-case hexadecimal, padded with zeros to a number of digits.
abbrev pub padded_hex : ℕ → ℕ → List ℕ
padded_hex width n = replicate (width - length (digits 16 true n)) 48 ++ digits 16 true n

-- The line of an item, or of none.
abbrev pub answer_line : Option Item → List ℕ
answer_line (Some (Char c)) = codes "U+" ++ (padded_hex 4 c ++ codes "\n")
answer_line (Some (Fault u)) = codes "fault " ++ (digits 16 false u ++ codes "\n")
answer_line None = codes "none\n"

-- The lines of the items that a decoder of the units returns at the ends.
abbrev pub ends_lines : List ℕ → List End → List ℕ
ends_lines us ends = flat_map answer_line (answers (items Utf16 us) ends)

-- Characters, each as `char::escape_default` escapes it.
abbrev pub escaped : List ℕ → List ℕ
escaped cs = utf8 (flat_map escape_default cs)

-- The line of an edit's reply.
abbrev pub reply_line : step.ReplyData → List ℕ
reply_line step.Done = codes "done\n"
reply_line (step.Char c) = codes "char " ++ (escaped (c ∷ []) ++ codes "\n")
reply_line step.NoChar = codes "nochar\n"
reply_line (step.Chars cs) = codes "chars " ++ (escaped cs ++ codes "\n")
reply_line step.BadPlace = codes "badplace\n"
reply_line step.BadRange = codes "badrange\n"

-- The line of a text.
abbrev pub text_line : List ℕ → List ℕ
text_line cs = codes "text " ++ (escaped cs ++ codes "\n")

-- A space, and a unit of a number of digits.
abbrev pub spaced_unit : ℕ → ℕ → List ℕ
spaced_unit width u = 32 ∷ padded_hex width u

-- A line of units, after its name.
abbrev pub units_line : List ℕ → ℕ → List ℕ → List ℕ
units_line name width us = name ++ (flat_map (spaced_unit width) us ++ codes "\n")

-- The line of a text, and those of units in UTF-16 and in UTF-32.
abbrev pub string_lines : List ℕ → List ℕ → List ℕ → List ℕ
string_lines cs narrow wide = text_line cs ++ (units_line (codes "utf16") 4 narrow ++ units_line (codes "utf32") 8 wide)

-- The lines of replies, and then those of the text and of the units of two strings.
abbrev pub result_lines : List step.ReplyData → List ℕ → List ℕ → List ℕ → List ℕ
result_lines replies cs narrow wide = flat_map reply_line replies ++ string_lines cs narrow wide

-- The lines of replies, and then those of a text and of its own units.
abbrev pub text_lines : List step.ReplyData → List ℕ → List ℕ
text_lines replies cs = result_lines replies cs (encode Utf16 cs) (encode Utf32 cs)

-- The lines of the replies to the edits of a text, and then those of the resulting text.
abbrev pub edit_lines : List ℕ → List Edit → List ℕ
edit_lines cs edits = text_lines (step.meaning cs edits).1 (step.meaning cs edits).0
