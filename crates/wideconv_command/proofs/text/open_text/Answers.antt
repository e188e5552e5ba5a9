use Rattle.std.proofs.Common.{◌≡◌, Some, sym, ap, subst, ◌∙◌}
use Rattle.wide_files.specs.Boms.{scheme_by_bom}
use Rattle.wideconv_command.proofs.Inputs.{opens}
use Rattle.wideconv_command.specs.Inputs.{head_of, left_by, left_of, source_of}
use Rattle.wideconv_command.specs.Texts.{OpensByBom}
use Rattle.wideconv_command.proofs.text.open_text.Goals as goal

-- The bytes were looked at and are still left, but for those of the BOM that were passed.
pub returns-clause-found : goal.returns-clause-found
returns-clause-found g c =
    let before = left_by g.S.ByteSource.has_ended g.S.ByteSource.left c.args.source.now in
    let looked = c.look.new.self in
    let opened = c.skip.new.self in
    let found = c.in-Some-scheme_by_bom.found in
    let bom : scheme_by_bom (head_of looked) ≡ Some found = sym (c.scheme_by_bom.ensures ∙ ap scheme_by_bom c.head-head.ensures) ∙ c.in-Some-scheme_by_bom.is in
    let opening = opens before (head_of looked) (head_of opened) (g.S.ByteSource.has_ended (source_of looked)) (g.S.ByteSource.left (source_of looked)) found c.look.ensures.left bom c.skip.ensures.head in
    λ none. subst (λ s. OpensByBom before (left_of (head_of opened) (g.S.ByteSource.has_ended s) (g.S.ByteSource.left s)) found) (sym c.skip.ensures.source) opening
