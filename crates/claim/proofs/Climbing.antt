-- The highest plateau of the cuts so far is that of the claim, once all are seen.
use Rattle.std.proofs.Common.{◌≡◌, ℕ, zero, suc, ◌<◌, ◌≤◌, max, Bool, true, false, cond, List, [], ◌∷◌, ◌++◌, length, get_or, ◌&&◌, ◌||◌, refl, ap, arith}
use Rattle.std.specs.Prelude.{nat_eq, nat_lt}
use Rattle.std.proofs.lemmas.Bool.Decides.{nat_tests}
use Rattle.few.specs.Few.{items}
use Rattle.claim.specs.declared.claim.Claim.{Claim}
use Rattle.claim.specs.declared.claim.Cut.{Cut}
use Rattle.claim.specs.declared.plateau.Plateau.{Plateau}
use Rattle.claim.specs.Asking.{given, given_at}
use Rattle.claim.specs.Plateau.{Level, Spans, higher}
use Rattle.claim.proofs.Growing.{given_up}
use Rattle.claim.proofs.Reaching.{greatest_push}
use Rattle.theory.specs.Demand.{greatest}

greatest_item : {X : Type 0} (f : X → ℕ) (xs : List X) (i : ℕ) (x : X) → i < length xs → x ≡ get_or xs i x → f x ≤ greatest f xs
greatest_item f [] i x below is = absurd (omega arith)
greatest_item f (y ∷ xs) zero x below is = omega (arith, ap f is)
greatest_item f (y ∷ xs) (suc i) x below is = let rec = greatest_item f xs i x (omega arith) is in omega arith

higher_low : (a b : ℕ) (t : Bool) → (nat_lt a b || (nat_eq a b && t)) ≡ true → a ≤ b
higher_low a b t yes' = grind (arith, nat_tests)

higher_high : (a b : ℕ) (t : Bool) → (nat_lt a b || (nat_eq a b && t)) ≡ false → b ≤ a
higher_high a b t no' = grind (arith, nat_tests)

-- it is one of the two, and the other is no higher
higher_either : (a b : Plateau) (P : Plateau → Type 0) → (b.most ≤ a.most → P a) → (a.most ≤ b.most → P b) → P (higher a b)
higher_either a b P first second = go (nat_lt a.most b.most || (nat_eq a.most b.most && nat_lt b.since a.since)) refl
  where
    go : (t : Bool) → (nat_lt a.most b.most || (nat_eq a.most b.most && nat_lt b.since a.since)) ≡ t → P (cond t b a)
    go true is = second (higher_low a.most b.most (nat_lt b.since a.since) is)
    go false is = first (higher_high a.most b.most (nat_lt b.since a.since) is)

-- a is the highest plateau up to n ticks of the arrival and the cuts ks
pub record Highest (c : Claim) (n : ℕ) (ks : List Cut) (a : Plateau) : Type 0 where
  pub here : a.until ≡ n
  pub within : a.since ≤ n
  pub most : a.most ≡ max (given_at c n c.arrival) (greatest (given_at c n) ks)
  pub under : (m : ℕ) → Spans a m → a.most ≤ given c m

-- a is the plateau of a cut up to n ticks
pub record At (c : Claim) (n : ℕ) (k : Cut) (a : Plateau) : Type 0 where
  pub here : a.until ≡ n
  pub within : a.since ≤ n
  pub level : Level (λ m. given_at c m k) a

module _ (c : Claim) (n : ℕ) where
  at_end : (k : Cut) (a : Plateau) → At c n k a → given_at c n k ≡ a.most
  at_end k a at = at.level n (at.within, omega (arith, at.here))

  pub highest_first : (a : Plateau) → At c n c.arrival a → Highest c n [] a
  highest_first a at = record {
    here = at.here;
    within = at.within;
    most = omega (arith, at_end c.arrival a at);
    under = λ m spans. omega (arith, at.level m spans);
  }

  pub highest_next : (ks : List Cut) (i : ℕ) (k : Cut) (a b : Plateau) → i < length (items c.cuts) → k ≡ get_or (items c.cuts) i k → At c n k a → Highest c n ks b → Highest c n (ks ++ k ∷ []) (higher a b)
  highest_next ks i k a b below is at so_far =
      let last = greatest_push (given_at c n) ks k in
      let here = at_end k a at in
      higher_either a b (Highest c n (ks ++ k ∷ []))
      (λ up. record {
        here = at.here;
        within = at.within;
        most = omega (arith, so_far.most);
        under = λ m spans. omega (arith, at.level m spans, greatest_item (given_at c m) (items c.cuts) i k below is);
      })
      (λ up. record { here = so_far.here; within = so_far.within; most = omega (arith, so_far.most); under = so_far.under })

  pub highest_skip : (ks : List Cut) (k : Cut) (b : Plateau) → given_at c n k ≤ b.most → Highest c n ks b → Highest c n (ks ++ k ∷ []) b
  highest_skip ks k b low so_far = record {
    here = so_far.here;
    within = so_far.within;
    most = omega (arith, so_far.most, greatest_push (given_at c n) ks k);
    under = so_far.under;
  }

  pub highest_all : (a : Plateau) → Highest c n (items c.cuts) a → Level (given c) a
  highest_all a all m spans = omega (arith, all.under m spans, all.most, all.here, given_up c m n (omega (arith, all.here, spans.1)))
