-- Where a chunk surely is that of a key, the key surely isn't missing.
use Rattle.std.proofs.Common.{◌≡◌, ⊎_elim, inl, inr, ℕ, ◌+◌, List, [], ◌∷◌, ◌++◌, map, Bool, true, false, if◌then◌else◌, Some, refl, sym, ap, subst, ◌∙◌, true≢false}
use Rattle.std.proofs.lemmas.List.{append-nil}
use Rattle.std.specs.List.{list_any}
use Rattle.pure_terms.specs.Equality.{same_term}
use Rattle.pure_terms.specs.EqualityLaws.{same_term-refl}
use Rattle.pure_terms.specs.Pure.{PureTerm, positive, negative}
use Rattle.sym_chunks.specs.ByPlace.{elsewhere_or, places_of, all_at, all_there, all_by_place}
use Rattle.sym_chunks.specs.Cases.{case_of}
use Rattle.sym_chunks.specs.Keys.{same_sub, other_sub, at_key}
use Rattle.sym_chunks.specs.Walking.{PureWay, sure_place, missing_key}
use Rattle.sym_model.specs.declared.comparing.Comparison.{Comparison}
use Rattle.sym_model.specs.Alternatives.{Alternatives, never, always, given, both, all_from, is_empty, equal, same, other, by_comparison}
use Rattle.sym_model.specs.Comparing.{compared}
use Rattle.sym_model.specs.Lists.{Each, OneOf, IsAmong}
use Rattle.sym_model.specs.Pure.{PureSub, named, cell, shape, bound, dom, proto, gone, PureChunk, missed}
use Rattle.sym_model.proofs.ListLaws.{not_none, one_to}
use Rattle.sym_chunks.proofs.Loops.{nothing_left}
use Rattle.sym_chunks.proofs.PlaceLaws.{among_places}

-- ---- comparisons that are sure

-- no alternative behind a condition is empty
none_empty : (a : _) (y : Alternatives) → list_any is_empty (map (λ b. a ∷ b) y) ≡ false
none_empty a [] = refl
none_empty a (b ∷ y) = none_empty a y

sure_by : (s t : PureTerm) (y : Alternatives) (c : Comparison) → compared s t ≡ c → list_any is_empty (both (by_comparison c always never (given (positive (equal s t)))) y) ≡ true → compared s t ≡ Comparison.Same
sure_by s t y Comparison.Same is sure = is
sure_by s t y Comparison.Different is sure = absurd (true≢false (sym sure))
sure_by s t y Comparison.Unsure is sure = absurd (true≢false (sym sure ∙ behind y))
  where
    behind : (y : Alternatives) → list_any is_empty (both (given (positive (equal s t))) y) ≡ false
    behind [] = refl
    behind (b ∷ y) = behind y

-- what is sure of both is sure of the first, and then of the second
first_sure : (s t : PureTerm) (y : Alternatives) → list_any is_empty (both (same s t) y) ≡ true → compared s t ≡ Comparison.Same
first_sure s t y sure = sure_by s t y (compared s t) refl sure

alone : (y : Alternatives) → both always y ≡ y
alone [] = refl
alone (b ∷ y) = ap (λ x. b ∷ x) (alone y)

second_sure : (s t : PureTerm) (y : Alternatives) → compared s t ≡ Comparison.Same → list_any is_empty (both (same s t) y) ≡ true → list_any is_empty y ≡ true
second_sure s t y is sure = ap (list_any is_empty) (sym (alone y)) ∙ ap (λ c. list_any is_empty (both (by_comparison c always never (given (positive (equal s t)))) y)) (sym is) ∙ sure

never_other : (s t : PureTerm) → compared s t ≡ Comparison.Same → other s t ≡ never
never_other s t is = ap (λ c. by_comparison c never always (given (negative (equal s t)))) is

sure_same : (s t : PureTerm) → list_any is_empty (same s t) ≡ true → compared s t ≡ Comparison.Same
sure_same s t sure = first_sure s t always (ap (list_any is_empty) (behind (same s t)) ∙ sure)
  where
    behind : (x : Alternatives) → both x always ≡ x
    behind [] = refl
    behind (a ∷ x) = ap (λ b. b ∷ both x always) (append-nil a) ∙ ap (λ y. a ∷ y) (behind x)

sure_sub : (s u : PureSub) → list_any is_empty (same_sub s u) ≡ true → other_sub s u ≡ never
sure_sub (named p) (named q) sure = never_other p q (sure_same p q sure)
sure_sub (cell p) (cell q) sure = never_other p q (sure_same p q sure)
sure_sub shape shape sure = refl
sure_sub bound bound sure = refl
sure_sub dom dom sure = refl
sure_sub proto proto sure = refl
sure_sub gone gone sure = refl
sure_sub s u sure = absurd (true≢false (sym sure))

-- ---- all places

all_never : (f : PureTerm → Alternatives) (es : List PureTerm) → all_from never f es ≡ never
all_never f [] = refl
all_never f (e ∷ es) = all_never f es

one_never : (x : Alternatives) (f : PureTerm → Alternatives) (es : List PureTerm) → OneOf (λ e. f e ≡ never) es → all_from x f es ≡ never
one_never x f [] one = absurd one
one_never x f (e ∷ es) one =
    ⊎_elim (λ here. ap (λ y. all_from y f es) (ap (both x) here ∙ nothing_left x) ∙ all_never f es) (λ later. one_never (both x (f e)) f es later) one

module _ (f : PureChunk → Alternatives) (m : PureTerm) where
  step_never : (b : Bool) (y : Alternatives) → (if b then both never y else never) ≡ never
  step_never true y = refl
  step_never false y = refl

  at_never : (cs : List PureChunk) → all_at never f m cs ≡ never
  at_never [] = refl
  at_never (c ∷ cs) = ap (λ x. all_at x f m cs) (step_never (same_term c.loc m) (f c)) ∙ at_never cs

  here_never : (x : Alternatives) (b : Bool) (y : Alternatives) → b ≡ true → y ≡ never → (if b then both x y else x) ≡ never
  here_never x true y is none = ap (both x) none ∙ nothing_left x
  here_never x false y is none = absurd (true≢false (sym is))

  at_one_never : (x : Alternatives) (cs : List PureChunk) → OneOf (λ c. (same_term c.loc m ≡ true) × (f c ≡ never)) cs → all_at x f m cs ≡ never
  at_one_never x [] one = absurd one
  at_one_never x (c ∷ cs) one =
      ⊎_elim
      (λ (here, none). ap (λ y. all_at y f m cs) (here_never x (same_term c.loc m) (f c) here none) ∙ at_never cs)
      (λ later. at_one_never (if same_term c.loc m then both x (f c) else x) cs later)
      one

-- a chunk of the very location whose condition never holds
pub never_by_place : (l : PureTerm) (f : PureChunk → Alternatives) (cs : List PureChunk) (c : PureChunk) → IsAmong c cs → compared l c.loc ≡ Comparison.Same → f c ≡ never → all_by_place l f cs ≡ never
never_by_place l f cs c among is none =
    one_never always (all_there l f cs) (places_of cs)
    (one_to (λ y. y ≡ c.loc) (λ m. all_there l f cs m ≡ never) (places_of cs) (λ m e. subst (λ z. all_there l f cs z ≡ never) (sym e) there) (place_of cs among))
  where
    nowhere : all_at always f c.loc cs ≡ never
    nowhere = at_one_never f c.loc always cs (one_to (λ d. d ≡ c) (λ d. (same_term d.loc c.loc ≡ true) × (f d ≡ never)) cs (λ d e. subst (λ z. (same_term z.loc c.loc ≡ true) × (f z ≡ never)) (sym e) (same_term-refl c.loc, none)) among)

    there : all_there l f cs c.loc ≡ never
    there = ap (elsewhere_or l c.loc) nowhere ∙ ap (λ x. x ++ both (same l c.loc) never) (never_other l c.loc is) ∙ nothing_left (same l c.loc)

    one_each : (P : PureChunk → Type 0) (ds : List PureChunk) → Each P ds → IsAmong c ds → P c
    one_each P [] each one = absurd one
    one_each P (d ∷ ds) each one = ⊎_elim (λ e. subst P e each.0) (λ later. one_each P ds each.1 later) one

    place_of : (ds : List PureChunk) → IsAmong c ds → IsAmong c.loc (places_of ds)
    place_of ds one = one_each (λ d. IsAmong d.loc (places_of ds)) ds (among_places [] ds) one

-- ---- the sure chunk

module _ (l : PureTerm) (s : PureSub) where
  sure_if : (i j : ℕ) (c : PureChunk) (cs : List PureChunk) (b : Bool) → list_any is_empty (at_key l s c) ≡ b → (if b then Some i else sure_place l s (i + 1) cs) ≡ Some j → (sure_place l s (i + 1) cs ≡ Some j → OneOf (λ d. list_any is_empty (at_key l s d) ≡ true) cs)
      → OneOf (λ d. list_any is_empty (at_key l s d) ≡ true) (c ∷ cs)
  sure_if i j c cs true sure is later = inl sure
  sure_if i j c cs false sure is later = inr (later is)

  sure_one : (i j : ℕ) (cs : List PureChunk) → sure_place l s i cs ≡ Some j → OneOf (λ d. list_any is_empty (at_key l s d) ≡ true) cs
  sure_one i j [] is = not_none is
  sure_one i j (c ∷ cs) is = sure_if i j c cs (list_any is_empty (at_key l s c)) refl is (sure_one (i + 1) j cs)

  with_one : {X : Type 0} (P : PureChunk → Type 0) (cs : List PureChunk) → OneOf P cs → ((c : PureChunk) → IsAmong c cs → P c → X) → X
  with_one P [] one use_it = absurd one
  with_one P (c ∷ cs) one use_it = ⊎_elim (λ here. use_it c (inl refl) here) (λ later. with_one P cs later (λ d among holds. use_it d (inr among) holds)) one

  pub sure_not_missing : (cs : List PureChunk) (w : PureWay) (j : ℕ) → sure_place l s 0 w.left ≡ Some j → missing_key cs l s w ≡ []
  sure_not_missing cs w j is =
      with_one (λ d. list_any is_empty (at_key l s d) ≡ true) w.left (sure_one 0 j w.left is)
      (λ c among sure.
      let same_loc = first_sure l c.loc (same_sub s c.sub) sure in
      let never_is = never_by_place l (λ d. other_sub s d.sub) w.left c among same_loc (sure_sub s c.sub (second_sure l c.loc (same_sub s c.sub) same_loc sure)) in
      ap (λ x. case_of (both w.when x) cs (missed (record { loc = l; sub = s }))) never_is ∙ ap (λ x. case_of x cs (missed (record { loc = l; sub = s }))) (nothing_left w.when))
