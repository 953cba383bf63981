-- A condition on each chunk of a location holds exactly where it holds of each chunk that lies there.
use Rattle.std.proofs.Common.{◌≡◌, ◌↔◌, ⊎_elim, inl, inr, ℕ, nat_eq, List, [], ◌∷◌, ◌++◌, Bool, true, false, if◌then◌else◌, Some, IsTrue, refl, sym, ap, subst, ◌∙◌, true≢false}
use Rattle.std.specs.List.{list_any}
use Rattle.std.proofs.lemmas.Bool.{or_cases}
use Rattle.std.proofs.lemmas.Bool.Decides.{Decides-eqb}
use Rattle.gil_values.specs.Pure.{PureValue, symbol}
use Rattle.pure_terms.specs.declared.variables.Sort.{Sort}
use Rattle.pure_terms.specs.Equality.{same_term}
use Rattle.pure_terms.specs.EqualityLaws.{same_term-same, same_term-refl}
use Rattle.pure_terms.specs.Meaning.{value, all_true, IsProper}
use Rattle.pure_terms.specs.Pure.{PureTerm}
use Rattle.sym_chunks.specs.ByPlace.{elsewhere_or, places_from, places_of, all_at, all_there, all_by_place}
use Rattle.sym_chunks.specs.Laws.{IsLocation, ChunksAreToldByPlace}
use Rattle.sym_model.specs.Alternatives.{Alternatives, Hold, always, both, is_empty, same, other}
use Rattle.sym_model.specs.ConditionLaws.{HaveBoth}
use Rattle.sym_model.proofs.Combined.{both_from, both_parts, all_from_from, all_from_parts, always_true}
use Rattle.sym_model.proofs.Telling.{same_tells, other_tells}
use Rattle.sym_model.specs.Lists.{Each, IsAmong}
use Rattle.sym_model.specs.Pure.{PureChunk}
use Rattle.sym_model.proofs.ListLaws.{same_some, each_append, each_to, one_left, one_right, one_parts, one_with, each_is_among}
use Rattle.sym_chunks.proofs.CaseLaws.{sure_true}
use Rattle.sym_chunks.proofs.Facts.{same_symbols}

-- ---- the places

any_among : (t : PureTerm) (ts : List PureTerm) → list_any (same_term t) ts ≡ true → IsAmong t ts
any_among t [] is = absurd (true≢false (sym is))
any_among t (u ∷ ts) is = ⊎_elim (λ here. inl (sym (same_term-same t u here))) (λ later. inr (any_among t ts later)) (or_cases (same_term t u) (list_any (same_term t) ts) is)

module _ (P : PureTerm → Type 0) where
  each_step : (t : PureTerm) (seen : List PureTerm) (b : Bool) → P t → Each P seen → Each P (if b then seen else seen ++ t ∷ [])
  each_step t seen true is each = each
  each_step t seen false is each = each_append P seen (t ∷ []) each (is, tt)

  -- what holds of the location of each chunk holds of each place
  pub each_place : (seen : List PureTerm) (cs : List PureChunk) → Each P seen → Each (λ c. P c.loc) cs → Each P (places_from seen cs)
  each_place seen [] first each = first
  each_place seen (c ∷ cs) first each = each_place (if list_any (same_term c.loc) seen then seen else seen ++ c.loc ∷ []) cs (each_step c.loc seen (list_any (same_term c.loc) seen) each.0 first) each.1

still_among : (t u : PureTerm) (seen : List PureTerm) (b : Bool) → IsAmong t seen → IsAmong t (if b then seen else seen ++ u ∷ [])
still_among t u seen true among = among
still_among t u seen false among = one_left (λ y. y ≡ t) seen (u ∷ []) among

kept_among : (t : PureTerm) (seen : List PureTerm) (cs : List PureChunk) → IsAmong t seen → IsAmong t (places_from seen cs)
kept_among t seen [] among = among
kept_among t seen (c ∷ cs) among = kept_among t (if list_any (same_term c.loc) seen then seen else seen ++ c.loc ∷ []) cs (still_among t c.loc seen (list_any (same_term c.loc) seen) among)

now_among : (t : PureTerm) (seen : List PureTerm) (b : Bool) → list_any (same_term t) seen ≡ b → IsAmong t (if b then seen else seen ++ t ∷ [])
now_among t seen true is = any_among t seen is
now_among t seen false is = one_right (λ y. y ≡ t) seen (t ∷ []) (inl refl)

-- the location of each chunk is one of the places
pub among_places : (seen : List PureTerm) (cs : List PureChunk) → Each (λ c. IsAmong c.loc (places_from seen cs)) cs
among_places seen [] = tt
among_places seen (c ∷ cs) =
    let step = if list_any (same_term c.loc) seen then seen else seen ++ c.loc ∷ [] in
    (kept_among c.loc step cs (now_among c.loc seen (list_any (same_term c.loc) seen) refl), among_places step cs)

-- ---- the chunks at a place

module _ (v : List PureValue) (f : PureChunk → Alternatives) (m : PureTerm) where
  abbrev HoldsThere : PureChunk → Type 0
  HoldsThere c = same_term c.loc m ≡ true → Hold v (f c)

  step_parts : (b : Bool) (x y : Alternatives) → Hold v (if b then both x y else x) → Hold v x × (b ≡ true → Hold v y)
  step_parts true x y holds = let parts = both_parts v x y holds in (parts.0, λ is. parts.1)
  step_parts false x y holds = (holds, λ is. absurd (true≢false (sym is)))

  step_from : (b : Bool) (x y : Alternatives) → Hold v x → (b ≡ true → Hold v y) → Hold v (if b then both x y else x)
  step_from true x y first second = both_from v x y first (second refl)
  step_from false x y first second = first

  all_at_parts : (x : Alternatives) (cs : List PureChunk) → Hold v (all_at x f m cs) → Hold v x × Each HoldsThere cs
  all_at_parts x [] holds = (holds, tt)
  all_at_parts x (c ∷ cs) holds =
      let rest = all_at_parts (if same_term c.loc m then both x (f c) else x) cs holds in
      let parts = step_parts (same_term c.loc m) x (f c) rest.0 in
      (parts.0, (parts.1, rest.1))

  all_at_from : (x : Alternatives) (cs : List PureChunk) → Hold v x → Each HoldsThere cs → Hold v (all_at x f m cs)
  all_at_from x [] first each = first
  all_at_from x (c ∷ cs) first each = all_at_from (if same_term c.loc m then both x (f c) else x) cs (step_from (same_term c.loc m) x (f c) first each.0) each.1

-- ---- elsewhere, or there and so

module _ (vars : List Sort) (v : List PureValue) (proper : IsProper vars v) (l : PureTerm) (a : ℕ) (asked : IsLocation vars v l a) (m : PureTerm) (b : ℕ) (there : IsLocation vars v m b) where
  place_both : HaveBoth vars v l m (symbol a) (symbol b)
  place_both = record { proper = proper; first_over = asked.over; second_over = there.over; first = asked.is; second = there.is }

  parts_by : (x : Alternatives) (sure : Bool) → list_any is_empty x ≡ sure → Hold v (if sure then always else other l m ++ both (same l m) x) → b ≡ a → Hold v x
  parts_by x true sure holds e = sure_true v x sure
  parts_by x false sure holds e =
      ⊎_elim
      (λ elsewhere. absurd ((other_tells vars v l m (symbol a) (symbol b) place_both).0 elsewhere (ap symbol (sym e))))
      (λ here. (both_parts v (same l m) x here).1)
      (one_parts (λ conds. IsTrue (all_true v conds)) (other l m) (both (same l m) x) holds)

  pub elsewhere_parts : (x : Alternatives) → Hold v (elsewhere_or l m x) → b ≡ a → Hold v x
  elsewhere_parts x holds e = parts_by x (list_any is_empty x) refl holds e

  from_by : (x : Alternatives) (sure : Bool) → (b ≡ a → Hold v x) → (test : Bool) → nat_eq b a ≡ test → Hold v (if sure then always else other l m ++ both (same l m) x)
  from_by x true is test tested = always_true v
  from_by x false is true tested =
      let e = (Decides-eqb b a).0 tested in
      one_right (λ conds. IsTrue (all_true v conds)) (other l m) (both (same l m) x) (both_from v (same l m) x ((same_tells vars v l m (symbol a) (symbol b) place_both).1 (ap symbol (sym e))) (is e))
  from_by x false is false tested =
      one_left (λ conds. IsTrue (all_true v conds)) (other l m) (both (same l m) x)
      ((other_tells vars v l m (symbol a) (symbol b) place_both).1 (λ e. true≢false (sym ((Decides-eqb b a).1 (sym (same_symbols e))) ∙ tested)))

  pub elsewhere_from : (x : Alternatives) → (b ≡ a → Hold v x) → Hold v (elsewhere_or l m x)
  elsewhere_from x is = from_by x (list_any is_empty x) is (nat_eq b a) refl

-- ---- all places

module _ (vars : List Sort) (v : List PureValue) (proper : IsProper vars v) (l : PureTerm) (a : ℕ) (asked : IsLocation vars v l a) (f : PureChunk → Alternatives) (cs : List PureChunk) where
  abbrev LiesThere : PureChunk → Type 0
  LiesThere c = value v c.loc ≡ Some (symbol a) → Hold v (f c)

  abbrev IsSomewhere : PureTerm → Type 0
  IsSomewhere m = (b : ℕ) × IsLocation vars v m b

  -- a chunk at a place of which all is said
  told_at : (c : PureChunk) (m : PureTerm) → IsAmong c cs → m ≡ c.loc → Hold v (all_there l f cs m) → IsSomewhere c.loc → LiesThere c
  told_at c m among e holds (b, there) lies =
      let at_a : b ≡ a = same_symbols (same_some (sym there.is ∙ lies)) in
      let place : IsLocation vars v m b = subst (λ t. IsLocation vars v t b) (sym e) there in
      let each = (all_at_parts v f m always cs (elsewhere_parts vars v proper l a asked m b place (all_at always f m cs) holds at_a)).1 in
      one_with (HoldsThere v f m) (λ d. d ≡ c) cs each among (λ d so same. subst (λ x. Hold v (f x)) same (so (ap (λ (x : PureChunk). same_term x.loc m) same ∙ ap (same_term c.loc) e ∙ same_term-refl c.loc)))

  told_each : (ds : List PureChunk) → Each (λ c. IsAmong c cs) ds → Each (λ c. IsAmong c.loc (places_of cs)) ds → Each (λ c. IsSomewhere c.loc) ds → Each (λ m. Hold v (all_there l f cs m)) (places_of cs) → Each LiesThere ds
  told_each [] among placed somewhere holds = tt
  told_each (c ∷ ds) among placed somewhere holds = (
    one_with (λ m. Hold v (all_there l f cs m)) (λ m. m ≡ c.loc) (places_of cs) holds placed.0 (λ m so e. told_at c m among.0 e so somewhere.0),
    told_each ds among.1 placed.1 somewhere.1 holds,
  )

  place_from : (m : PureTerm) → IsSomewhere m → Each LiesThere cs → Hold v (all_there l f cs m)
  place_from m (b, there) each =
      elsewhere_from vars v proper l a asked m b there (all_at always f m cs) (λ e.
      all_at_from v f m always cs (always_true v)
      (each_to LiesThere (HoldsThere v f m) cs (λ c lies same. lies (ap (value v) (same_term-same c.loc m same) ∙ there.is ∙ ap (λ n. Some (symbol n)) e)) each))

  pub told_places : Each (λ c. IsSomewhere c.loc) cs → Hold v (all_by_place l f cs) ↔ Each LiesThere cs
  told_places somewhere = (
    λ holds. told_each cs (each_is_among cs) (among_places [] cs) somewhere (all_from_parts v (all_there l f cs) (places_of cs) always holds).1,
    λ each. all_from_from v (all_there l f cs) (places_of cs) always (always_true v)
        (each_to IsSomewhere (λ m. Hold v (all_there l f cs m)) (places_of cs) (λ m is. place_from m is each) (each_place IsSomewhere [] cs tt somewhere)),
  )

pub told_by_place : ChunksAreToldByPlace
told_by_place vars v l a f cs proper asked somewhere = told_places vars v proper l a asked f cs somewhere
