-- Lines taken from the front of a text.
use Rattle.std.proofs.Common.{◌≡◌, ℕ, List, ◌∷◌, ◌++◌, length, sym, refl, ap, ◌∙◌, subst, arith}
use Rattle.std.proofs.ByRecursion.{All-append, All-drop}
use Rattle.std.proofs.lemmas.List.{append_assoc, drop_at}
use Rattle.text.specs.declared.key.Key.{Key}
use Rattle.text.specs.declared.key.Key.TheVariants.{Job, Period, Deadline, Nodes, Kind, Tag, Ticks, After, Engines, Marks}
use Rattle.text.specs.Key.{key_bytes}
use Rattle.text.specs.Slots.{Taken}
use Rattle.text.specs.Split.{Lacks, Cut}
use Rattle.text.proofs.Cuts.{lacks_none, cut_front}

lacks_key : (k : Key) → Lacks 10 (key_bytes k)
lacks_key Job = omega arith
lacks_key Period = omega arith
lacks_key (Deadline p) = omega arith
lacks_key Nodes = omega arith
lacks_key Kind = omega arith
lacks_key Tag = omega arith
lacks_key Ticks = omega arith
lacks_key (After v) = omega arith
lacks_key Engines = omega arith
lacks_key Marks = omega arith

taken_split : (k : Key) (bs value more : List ℕ) → Taken k bs value more → bs ≡ (key_bytes k ++ value) ++ 10 ∷ more
taken_split k bs value more t = t.written ∙ sym (append_assoc (key_bytes k) value (10 ∷ more))

pub no_line : (k : Key) (bs : List ℕ) → Lacks 10 bs → (value more : List ℕ) → Taken k bs value more → ⊥
no_line k bs lack value more t = lacks_none 10 bs (key_bytes k ++ value) more lack (taken_split k bs value more t)

pub no_key : (k : Key) (bs front rest : List ℕ) → Cut 10 bs front rest → ((value : List ℕ) → front ≡ key_bytes k ++ value → ⊥) → (value more : List ℕ) → Taken k bs value more → ⊥
no_key k bs front rest cut none value more t =
    none value (cut_front 10 front rest (key_bytes k ++ value) more cut.first (All-append _ (key_bytes k) value (lacks_key k) t.ended) (sym cut.parts ∙ taken_split k bs value more t))

pub taken_from : (k : Key) (bs front rest value : List ℕ) → Cut 10 bs front rest → front ≡ key_bytes k ++ value → Taken k bs value rest
taken_from k bs front rest value cut e = record {
  ended = subst (Lacks 10) (drop_at (key_bytes k) value (length (key_bytes k)) refl) (All-drop _ (length (key_bytes k)) (key_bytes k ++ value) (subst (Lacks 10) e cut.first));
  written = cut.parts ∙ (ap (λ xs. xs ++ 10 ∷ rest) e ∙ append_assoc (key_bytes k) value (10 ∷ rest));
}
