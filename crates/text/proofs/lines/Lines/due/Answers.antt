use Rattle.std.proofs.Common.{rules, ◌≡◌, ℕ, ◌+◌, List, ◌++◌, sym, refl, subst}
use Rattle.std.proofs.lemmas.Result.{err_from_is_err_and}
use Rattle.text.specs.declared.fault.Fault.TheVariants.{Line, Form as Malformed}
use Rattle.text.specs.Key.{key_bytes}
use Rattle.text.specs.Split.{Cut, Lacks}
use Rattle.text.specs.Value.{Form}
use Rattle.text.proofs.Taking.{no_line, no_key, taken_from}
use Rattle.text.proofs.lines.Lines.due.Goals as goal

pub returns-in_err-front : goal.returns-in_err-front
returns-in_err-front c =
    let p = err_from_is_err_and c.from_residual.result c.from_residual.ensures.1 in
    let none : Lacks 10 c.args.self.now.rest.now = search rules in
    let is : p.0 ≡ Line (c.args.self.now.number + 1) = search rules in
    rw (p.1, is) (refl, no_line c.args.key _ none)

pub returns-in_err-bytes : goal.returns-in_err-bytes
returns-in_err-bytes c =
    let p = err_from_is_err_and c.from_residual-in_err-bytes.result c.from_residual-in_err-bytes.ensures.1 in
    let split : Cut 10 c.args.self.now.rest.now c.in_ok-front.front.now c.in_ok-front.rest.now = search rules in
    let none : (value : List ℕ) → c.in_ok-front.front.now ≡ key_bytes c.args.key ++ value → ⊥ = search rules in
    let is : p.0 ≡ Line (c.args.self.now.number + 1) = search rules in
    rw (p.1, is) (refl, no_key c.args.key _ _ _ split none)

pub returns-in_err-value : goal.returns-in_err-value
returns-in_err-value c =
    let p = err_from_is_err_and c.from_residual-in_err-value.result c.from_residual-in_err-value.ensures.1 in
    let bytes = c.in_ok-bytes.bytes.now in
    let split : Cut 10 c.args.self.now.rest.now c.in_ok-front.front.now c.in_ok-front.rest.now = search rules in
    let front : c.in_ok-front.front.now ≡ key_bytes c.args.key ++ bytes = search rules in
    let none : Form c.sort.result bytes → ⊥ = search rules in
    let is : p.0 ≡ Malformed (c.args.self.now.number + 1) = search rules in
    rw (p.1, is) (
      refl,
      (
        bytes,
        c.in_ok-front.rest.now,
        taken_from c.args.key _ _ _ bytes split front,
        λ form. none (subst (λ s. Form s bytes) (sym c.sort.ensures) form),
      ),
    )
