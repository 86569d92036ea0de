use Rattle.std.proofs.Common.{rules, ◌^◌, ◌<◌, ◌≤◌, ◌++◌, drop, length, w64, to_z, subst, sym, arith}
use Rattle.capi.specs.Writing.{Writes}
use Rattle.capi.proofs.Told.{they_are_many, they_fit}
use Rattle.capi.proofs.writing.write.Goals as goal

pub returns-then-buffer-bytes : goal.returns-then-buffer-bytes
returns-then-buffer-bytes c =
    let small : length c.args.bytes.now < 2 ^ 63 = search rules in
    they_are_many c.args.bytes.now c.args.buffer.now small c.if-buffer-bytes.true

pub returns : goal.returns
returns c =
    let bs = c.args.bytes.now in
    let old = c.args.buffer.now in
    let small : length c.args.bytes.now < 2 ^ 63 = search rules in
    let room : length c.args.bytes.now ≤ length c.args.buffer.now = omega (arith, c.if-buffer-bytes.false) in
    subst (λ first. Writes bs old (to_z w64 (length bs)) (first ++ drop (length bs) old)) (sym c.copy_from_slice.ensures.after) (they_fit bs old small room)
