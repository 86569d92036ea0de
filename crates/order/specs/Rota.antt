-- The engines of a tag in turn.
--   remembered rota tag                          the engine that last took a part of the tag; of a tag above 7 none
--   is_after last e                              e has a higher number than the last, if there is a last
--   rota_list last engines                       the engines after the last, then the others
--   last_told was tellings tag                   the engine last told of the tag, or what was before
--   rota_listing rota tellings tags tag loads    the engines of the tag in turn, from after the last that took a part of it; of a tag above 7 none is remembered
use Rattle.std.specs.Prelude.{ℕ, Bool, true, cond, not, List, [], ◌∷◌, ◌++◌, Some, None, filter, Option, ◌==◌, nat_lt, slice_index_or}
use Rattle.order.specs.declared.rota.Rota.{Rota}
use Rattle.order.specs.Listing.{engines_of}

abbrev pub is_after : Option ℕ → ℕ → Bool
is_after None e = true
is_after (Some last) e = nat_lt last e

abbrev pub rota_list : Option ℕ → List ℕ → List ℕ
rota_list last engines = filter (λ e. is_after last e) engines ++ filter (λ e. not (is_after last e)) engines

abbrev pub last_told : Option ℕ → List (ℕ × ℕ) → ℕ → Option ℕ
last_told was [] tag = was
last_told was (telling ∷ tellings) tag = last_told (cond (telling.0 == tag) (Some telling.1) was) tellings tag

abbrev pub remembered : Rota → ℕ → Option ℕ
remembered rota tag = cond (nat_lt tag 8) (slice_index_or rota.last tag None) None

abbrev pub rota_listing : Rota → List (ℕ × ℕ) → List ℕ → ℕ → List ℕ → List ℕ
rota_listing rota tellings tags tag loads =
    rota_list (cond (nat_lt tag 8) (last_told (slice_index_or rota.last tag None) tellings tag) None) (engines_of tags tag)
