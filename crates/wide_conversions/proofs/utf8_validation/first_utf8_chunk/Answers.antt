use Rattle.std.proofs.Common.{◌∙◌, refl, sym}
use Rattle.std.proofs.lemmas.Str.{utf8_valid_len-IsUtf8, utf8_valid_len-IsValidUpTo}
use Rattle.wide_conversions.proofs.ValidPrefixes.{error_len-beyond, text-all, text-beyond, valid-beyond}
use Rattle.wide_conversions.proofs.ChunkEnds.{ends-complete, ends-ill_formed, ends-incomplete}
use Rattle.wide_conversions.proofs.utf8_validation.first_utf8_chunk.Goals as goal

pub returns-in-Ok-clause-len : goal.returns-in-Ok-clause-len
returns-in-Ok-clause-len c = sym (utf8_valid_len-IsUtf8 c.args.text.now (text-beyond c.args.text.now c.checked_len-checked.result c.checked_len-checked.ensures.text c.in-Ok.ensures.cases.1))

pub returns-in-Ok-clause-prefix : goal.returns-in-Ok-clause-prefix
returns-in-Ok-clause-prefix c = text-all c.args.text.now (text-beyond c.args.text.now c.checked_len-checked.result c.checked_len-checked.ensures.text c.in-Ok.ensures.cases.1)

pub returns-in-Ok-clause-end : goal.returns-in-Ok-clause-end
returns-in-Ok-clause-end c = ends-complete c.args.text.now (text-beyond c.args.text.now c.checked_len-checked.result c.checked_len-checked.ensures.text c.in-Ok.ensures.cases.1)

pub returns-in-Some-clause-len : goal.returns-in-Some-clause-len
returns-in-Some-clause-len c =
    let checked = c.checked_len-checked in
    sym (utf8_valid_len-IsValidUpTo c.args.text.now _ (valid-beyond c.args.text.now checked.result _ _ c.valid_up_to.ensures checked.ensures.within checked.ensures.text c.in-Err.ensures.cases.1))

pub returns-in-Some-clause-prefix : goal.returns-in-Some-clause-prefix
returns-in-Some-clause-prefix c =
    let checked = c.checked_len-checked in
    (valid-beyond c.args.text.now checked.result _ _ c.valid_up_to.ensures checked.ensures.within checked.ensures.text c.in-Err.ensures.cases.1).front

pub returns-in-Some-clause-end : goal.returns-in-Some-clause-end
returns-in-Some-clause-end c =
    let bs = c.args.text.now in
    let checked = c.checked_len-checked in
    let valid = valid-beyond bs checked.result _ _ c.valid_up_to.ensures checked.ensures.within checked.ensures.text c.in-Err.ensures.cases.1 in
    let error = error_len-beyond bs checked.result _ _ _ _ c.valid_up_to.ensures c.error_len.ensures c.in-Err.ensures.fault in
    ends-ill_formed bs _ c.in-Some.len valid (sym error ∙ c.in-Some.is)

pub returns-in-None-clause-len : goal.returns-in-None-clause-len
returns-in-None-clause-len c =
    let checked = c.checked_len-checked in
    sym (utf8_valid_len-IsValidUpTo c.args.text.now _ (valid-beyond c.args.text.now checked.result _ _ c.valid_up_to.ensures checked.ensures.within checked.ensures.text c.in-Err.ensures.cases.1))

pub returns-in-None-clause-prefix : goal.returns-in-None-clause-prefix
returns-in-None-clause-prefix c =
    let checked = c.checked_len-checked in
    (valid-beyond c.args.text.now checked.result _ _ c.valid_up_to.ensures checked.ensures.within checked.ensures.text c.in-Err.ensures.cases.1).front

pub returns-in-None-clause-end : goal.returns-in-None-clause-end
returns-in-None-clause-end c =
    let bs = c.args.text.now in
    let checked = c.checked_len-checked in
    let valid = valid-beyond bs checked.result _ _ c.valid_up_to.ensures checked.ensures.within checked.ensures.text c.in-Err.ensures.cases.1 in
    let error = error_len-beyond bs checked.result _ _ _ _ c.valid_up_to.ensures c.error_len.ensures c.in-Err.ensures.fault in
    ends-incomplete bs _ _ valid (sym error ∙ c.in-None.is) refl
