-- The lines of a sheet that are written, node by node.
use Rattle.std.proofs.Common.{◌≡◌, ℕ, ◌+◌, true, false, cond, List, [], ◌∷◌, ◌++◌, flat_map, refl, sym, ap, ◌∙◌, append_assoc, append-nil, add-one}
use Rattle.plan.specs.declared.part.Task.{Task}
use Rattle.plan.specs.Part.{task_at, tasks_below}
use Rattle.resident.specs.declared.resident.Resident.{Resident}
use Rattle.sheet.specs.Sheet.{has_line, line_of}
use Rattle.std.proofs.lemmas.Grind.{flat_map-append}
use Rattle.std.proofs.lemmas.List.Concat.{flat_map-cons}

one_more : (f : Task → List ℕ) (front : List ℕ) (ts : List Task) (t : Task) → (front ++ flat_map f ts) ++ f t ≡ front ++ flat_map f (ts ++ t ∷ [])
one_more f front ts t =
    let last = flat_map-append f ts (t ∷ []) ∙ ap (λ bs. flat_map f ts ++ bs) (flat_map-cons f t [] ∙ append-nil (f t)) in
    append_assoc front (flat_map f ts) (f t) ∙ ap (λ bs. front ++ bs) (sym last)

module _ (r : Resident) (front : List ℕ) (v : ℕ) where
  abbrev pub so_far : ℕ → List ℕ
  so_far n = front ++ flat_map (line_of r) (tasks_below r.plan (has_line r) n)

  below_more : (ts : List Task) → cond (has_line r v) (task_at r.plan v ∷ []) [] ≡ ts → so_far (v + 1) ≡ front ++ flat_map (line_of r) (tasks_below r.plan (has_line r) v ++ ts)
  below_more ts is = ap so_far (add-one v) ∙ ap (λ us. front ++ flat_map (line_of r) (tasks_below r.plan (has_line r) v ++ us)) is

  pub write_on : has_line r v ≡ true → so_far v ++ line_of r (task_at r.plan v) ≡ so_far (v + 1)
  write_on yes' = one_more (line_of r) front (tasks_below r.plan (has_line r) v) (task_at r.plan v) ∙ sym (below_more (task_at r.plan v ∷ []) (rw yes' refl))

  pub write_skip : has_line r v ≡ false → so_far v ≡ so_far (v + 1)
  write_skip no' =
      let below = tasks_below r.plan (has_line r) v in
      sym (below_more [] (rw no' refl) ∙ ap (λ us. front ++ flat_map (line_of r) us) (append-nil below))
