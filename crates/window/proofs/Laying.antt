-- A turn of the loop that lays the windows, and what the tables then say.
use Rattle.std.proofs.Common.{◌≡◌, ℕ, ◌+◌, ◌<◌, ◌≤◌, Bool, true, false, cond, ◌≢◌, List, length, get_or, set, MatchBool, sym, ap, ◌∙◌, subst, inl, inr, arith}
use Rattle.std.proofs.lemmas.List.{get_or-set_same, get_or-set_other, length-set}
use Rattle.std.proofs.lemmas.Bool.{cases_Bool, cases_eq, cases_lt, true≢false, false≢true}
use Rattle.std.proofs.lemmas.Bool.Decides.{when_true, when_false}
use Rattle.task.specs.declared.node.Node.{Node}
use Rattle.task.specs.declared.tables.Concrete.{Concrete}
use Rattle.task.specs.Concrete.{Member, IsConcrete}
use Rattle.task.specs.Graph.{at}
use Rattle.task.specs.Node.{is_sub_task}
use Rattle.task.specs.Nodes.{Sound}
use Rattle.task.specs.Tables.{leads}
use Rattle.slack.specs.declared.rule.Position.{Position}
use Rattle.window.specs.declared.layout.Lengths.{Lengths}
use Rattle.window.specs.declared.layout.Window.{Window}
use Rattle.window.specs.Greatest.{greatest}
use Rattle.window.specs.Recurrences.{Ascends, Laid, Within}
use Rattle.window.specs.Windows.{position, deadline_of, offset_of, Opens, IsWindows}
use Rattle.window.proofs.Longest.{member_inside}
use Rattle.window.proofs.Maxima.{greatest_same, greatest_at, greatest_found}

-- the same of two tables
abbrev pub LaidIn : List Node → Concrete → (ℕ → ℕ) → List ℕ → List ℕ → ℕ → Type 0
LaidIn ns g L os ls v = Laid ns g L (λ u. get_or os u 0) (λ u. get_or ls u 0) v

when_map : {P Q R S : Type 0} (b : Bool) → (P → R) → (Q → S) → MatchBool b P Q → MatchBool b R S
when_map true f g p = f p
when_map false f g q = g q

when_is_true : (P Q : Type 0) (b : Bool) → b ≡ true → P → MatchBool b P Q
when_is_true P Q true e p = p
when_is_true P Q false e p = absurd (false≢true e)

when_is_false : (P Q : Type 0) (b : Bool) → b ≡ false → Q → MatchBool b P Q
when_is_false P Q true e q = absurd (true≢false e)
when_is_false P Q false e q = q

module _ (ns : List Node) (g : Concrete) (L : ℕ → ℕ) (os ls : List ℕ) (x o e : ℕ) where
  same_greatest : (w : ℕ) → (leads g.edges x w ≡ true → ⊥) → greatest (λ u. leads g.edges u w) (λ u. get_or ls u 0) 24 ≡ greatest (λ u. leads g.edges u w) (λ u. get_or (set ls x e) u 0) 24
  same_greatest w blind =
      greatest_same (λ u. leads g.edges u w) (λ u. get_or ls u 0) (λ u. get_or (set ls x e) u 0) 24
      (λ u below r. sym (get_or-set_other ls x u e 0 (λ q. blind (ap (λ k. leads g.edges k w) (sym q) ∙ r))))

  pub laid_keep : (w : ℕ) → w ≢ x → (leads g.edges x w ≡ true → ⊥) → LaidIn ns g L os ls w → LaidIn ns g L (set os x o) (set ls x e) w
  laid_keep w ne blind =
      let so = get_or-set_other os x w o 0 ne in
      let sl = get_or-set_other ls x w e 0 ne in
      when_map (get_or g.members w false)
      (λ p. (so ∙ p.0 ∙ same_greatest w blind, sl ∙ p.1 ∙ ap (λ k. cond (is_sub_task (at ns w)) (L w) k) (sym so)))
      (λ q. (so ∙ q.0, sl ∙ q.1))

  pub laid_here : get_or g.members x false ≡ true → x < length os → x < length ls → (leads g.edges x x ≡ true → ⊥)
      → o ≡ greatest (λ u. leads g.edges u x) (λ u. get_or ls u 0) 24 → e ≡ cond (is_sub_task (at ns x)) (L x) o → LaidIn ns g L (set os x o) (set ls x e) x
  laid_here member room-o room-l blind opens ends =
      let so = get_or-set_same os x o 0 room-o in
      let sl = get_or-set_same ls x e 0 room-l in
      when_is_true _ _ (get_or g.members x false) member
      (so ∙ opens ∙ same_greatest x blind, sl ∙ ends ∙ ap (λ k. cond (is_sub_task (at ns x)) (L x) k) (sym so))

-- the windows are laid below v, and nothing stands from v on
abbrev pub LaidBelow : List Node → Concrete → (ℕ → ℕ) → List ℕ → List ℕ → ℕ → Type 0
LaidBelow ns g L os ls v =
    (length os ≡ 24) × (length ls ≡ 24) × ((w : ℕ) → w < v → LaidIn ns g L os ls w) × ((w : ℕ) → v ≤ w → (get_or os w 0 ≡ 0) × (get_or ls w 0 ≡ 0))

module _ (ns : List Node) (g : Concrete) (L : ℕ → ℕ) (ascends : Ascends g.edges) (os ls : List ℕ) (v : ℕ) (below : v < 24) (was : LaidBelow ns g L os ls v) where
  pub laid_on : (os' ls' : List ℕ) (o e : ℕ) → get_or g.members v false ≡ true → o ≡ greatest (λ u. leads g.edges u v) (λ u. get_or ls u 0) 24
      → e ≡ cond (is_sub_task (at ns v)) (L v) o → os' ≡ set os v o → ls' ≡ set ls v e → LaidBelow ns g L os' ls' (v + 1)
  laid_on os' ls' o e member opens ends eo el =
      let core : LaidBelow ns g L (set os v o) (set ls v e) (v + 1) = (
        length-set os v o ∙ was.0,
        length-set ls v e ∙ was.1,
        (λ w lt. elim (cases_eq w v) [
          | inl q ↦ subst (LaidIn ns g L (set os v o) (set ls v e)) (sym q)
              (laid_here ns g L os ls v o e member (omega (arith, was.0)) (omega (arith, was.1)) (λ r. omega (arith, (ascends v v r).0)) opens ends)
          | inr ne ↦ laid_keep ns g L os ls v o e w ne (λ r. omega (arith, (ascends v w r).0)) (was.2 w (omega arith))
        ]),
        (λ w past. (get_or-set_other os v w o 0 (omega arith) ∙ (was.3 w (omega arith)).0, get_or-set_other ls v w e 0 (omega arith) ∙ (was.3 w (omega arith)).1)),
      ) in
      subst (λ (a : List ℕ). LaidBelow ns g L a ls' (v + 1)) (sym eo) (subst (λ (b : List ℕ). LaidBelow ns g L (set os v o) b (v + 1)) (sym el) core)

  pub laid_past : (os' ls' : List ℕ) → get_or g.members v false ≡ false → os' ≡ os → ls' ≡ ls → LaidBelow ns g L os' ls' (v + 1)
  laid_past os' ls' member eo el =
      let core : LaidBelow ns g L os ls (v + 1) = (
        was.0,
        was.1,
        (λ w lt. elim (cases_eq w v) [
          | inl q ↦ subst (LaidIn ns g L os ls) (sym q) (when_is_false _ _ (get_or g.members v false) member (was.3 v (omega arith)))
          | inr ne ↦ was.2 w (omega arith)
        ]),
        (λ w past. was.3 w (omega arith)),
      ) in
      subst (λ (a : List ℕ). LaidBelow ns g L a ls' (v + 1)) (sym eo) (subst (λ (b : List ℕ). LaidBelow ns g L os b (v + 1)) (sym el) core)

pub laid_all : (ns : List Node) (g : Concrete) (L : ℕ → ℕ) (os ls : List ℕ) (v : ℕ) → length ns ≤ v → Within (length ns) g.members → LaidBelow ns g L os ls v → (w : ℕ) → LaidIn ns g L os ls w
laid_all ns g L os ls v all within was w = elim (cases_lt w v) [
  | inl below ↦ was.2 w below
  | inr past ↦ elim (cases_Bool (get_or g.members w false)) [
    | inl y ↦ absurd (omega (arith, within w y))
    | inr n ↦ when_is_false _ _ (get_or g.members w false) n (was.3 w past)
  ]
]

module _ (ns : List Node) (sound : Sound ns) (c d : ℕ) (g : Concrete) (is : IsConcrete ns c g) (local : Position → ℕ) (l : Lengths) (w : List Window)
    (laid : (v : ℕ) → Laid ns g (λ u. local (position d l u)) (offset_of w) (deadline_of w) v) where
  laid_member : (v : ℕ) → Member ns c v
      → (offset_of w v ≡ greatest (λ u. leads g.edges u v) (λ u. deadline_of w u) 24)
      × (deadline_of w v ≡ cond (is_sub_task (at ns v)) (local (position d l v)) (offset_of w v))
  laid_member v m = when_true _ _ ((is.nodes v).1 m) (laid v)

  opens : (v : ℕ) → Member ns c v → Opens ns c (deadline_of w) v (offset_of w v)
  opens v m =
      let at-v = (laid_member v m).0 in
      record {
        bound = λ u b. omega (arith, greatest_at (λ a. leads g.edges a v) (λ a. deadline_of w a) 24 u (member_inside ns sound c u b.0) ((is.edges u v).1 b));
        attained = elim (greatest_found (λ a. leads g.edges a v) (λ a. deadline_of w a) 24) [
          | inl none ↦ inl (λ u b. true≢false (sym ((is.edges u v).1 b) ∙ none.0 u (member_inside ns sound c u b.0)), at-v ∙ none.1)
          | inr some ↦ inr (some.0, (is.edges some.0 v).0 some.2, some.3 ∙ sym at-v)
        ];
      }

  pub laid_windows : IsWindows ns c d local l w
  laid_windows = record {
    offsets = opens;
    sub_task = λ v m s. (laid_member v m).1 ∙ ap (λ b. cond b (local (position d l v)) (offset_of w v)) s;
    fork = λ v m s. (laid_member v m).1 ∙ ap (λ b. cond b (local (position d l v)) (offset_of w v)) s;
    nowhere = λ v out. elim (cases_Bool (get_or g.members v false)) [
      | inl y ↦ absurd (out ((is.nodes v).0 y))
      | inr n ↦ when_false _ _ n (laid v)
    ];
  }

-- windows that agree with tables are laid as the tables are
pub laid_same : (ns : List Node) (g : Concrete) (L o e o' e' : ℕ → ℕ) → ((v : ℕ) → o' v ≡ o v) → ((v : ℕ) → e' v ≡ e v) → (v : ℕ) → Laid ns g L o e v → Laid ns g L o' e' v
laid_same ns g L o e o' e' so se v =
    when_map (get_or g.members v false)
    (λ p. (so v ∙ p.0 ∙ greatest_same (λ u. leads g.edges u v) e e' 24 (λ u _ _. sym (se u)), se v ∙ p.1 ∙ ap (λ k. cond (is_sub_task (at ns v)) (L v) k) (sym (so v))))
    (λ q. (so v ∙ q.0, se v ∙ q.1))
