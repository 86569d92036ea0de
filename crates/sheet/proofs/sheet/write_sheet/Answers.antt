use Rattle.std.proofs.Common.{◌++◌, drop, length, refl, ap, ◌∙◌, arith}
use Rattle.sheet.proofs.sheet.write_sheet.Goals as goal

pub returns-clause-written : goal.returns-clause-written
returns-clause-written c =
    let is = c.as_bytes-bytes.ensures.value ∙ c.deref.ensures.0 ∙ c.text-text.ensures in
    (omega (arith, ap length is), ap (λ bs. bs ++ drop (length c.as_bytes-bytes.result.now) c.args.buffer.now) (c.copy_from_slice.ensures.after ∙ is))

pub returns-then-buffer-bytes-clause-short : goal.returns-then-buffer-bytes-clause-short
returns-then-buffer-bytes-clause-short c =
    let is = c.as_bytes-bytes.ensures.value ∙ c.deref.ensures.0 ∙ c.text-text.ensures in
    (λ e. omega (arith, ap length is), λ low. refl)
