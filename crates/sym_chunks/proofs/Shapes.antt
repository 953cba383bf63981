-- The forms of the conditions that are asked, and what states and results are made of: what holds of each, for every reading of
-- conditions and terms.
use Rattle.std.proofs.Common.{◌≡◌, ◌⊎◌, ⊎_elim, inl, inr, ℕ, zero, suc, ◌+◌, ℤ, List, [], ◌∷◌, ◌++◌, map, Bool, true, false, not, ◌||◌, Option, Some, None, IsTrue, if◌then◌else◌, slice_get, refl, sym, ap, subst, ◌∙◌, true≢false, arith}
use Rattle.std.specs.List.{flat_map, remove, list_any}
use Rattle.std.specs.Prelude.{⊤}
use Rattle.gil_values.specs.declared.kinds.Kind.{Kind}
use Rattle.gil_values.specs.Equality.{same_kind}
use Rattle.mem_model.specs.declared.failures.Failure.{Failure}
use Rattle.mem_model.specs.Tables.{failure_text}
use Rattle.pure_terms.specs.declared.literals.Literal.{Literal}
use Rattle.pure_terms.specs.Equality.{same_term}
use Rattle.pure_terms.specs.EqualityLaws.{same_term-same}
use Rattle.pure_terms.specs.Kinds.{allows, known_kind}
use Rattle.pure_terms.specs.Pure.{PureTerm, literal, variable, list_of, unary_of, binary_of, PureTerms, to_list, PureAtom, positive, negative, opening}
use Rattle.sym_chunks.specs.ByPlace.{elsewhere_or, places_of, all_at, all_there, all_by_place, any_at}
use Rattle.sym_chunks.specs.Cases.{failure, true_term, PureCase, case_of, branches_of, case_branches, sure_case, choose_by, choose, PureAccess, reads, writes, takes, accessed, outs_listed, given_back, found_from, found}
use Rattle.sym_chunks.specs.Forms.{form_of}
use Rattle.sym_chunks.specs.Keys.{same_sub, other_sub, at_key}
use Rattle.sym_chunks.specs.NameTerms.{listed, unlisted, distinct_from, holds_name, unheld_name, unheld}
use Rattle.sym_chunks.specs.Ordering.{less_than, not_above, literals_less, literals_at_most, less, at_most, outside, inside}
use Rattle.sym_chunks.specs.Walking.{PureWay, way_of, sure_place, ways_from, ways_by, next_ways, missing_key, all_taken, walk}
use Rattle.sym_model.specs.declared.comparing.Comparison.{Comparison}
use Rattle.sym_model.specs.Alternatives.{Alternatives, never, always, given, both, any, all_from, all, is_empty, settled, equal, same, other, by_comparison, kind_is, by_kind, of_kind, not_of_kind, with_form}
use Rattle.sym_model.specs.Comparing.{compared}
use Rattle.sym_model.specs.Chunks.{with_held, value_where_described, value_where_held, offset_of}
use Rattle.sym_model.specs.Cores.{zero_term}
use Rattle.sym_model.specs.Lists.{Each}
use Rattle.sym_model.specs.Pure.{PureSub, named, cell, shape, bound, dom, proto, gone, PureChunk, PureResult, sub_terms, done, failed, missed, result_terms}
use Rattle.sym_model.specs.Terms.{is_literal, is_list_term, are_apart, may_be_same, may_be_ordered, is_asked_kind}
use Rattle.sym_model.proofs.ChunkMeaning.{ChunkTerms, chunk_val}
use Rattle.sym_model.proofs.ListLaws.{same_some, not_none, each_append, each_flat, each_to, each_map}
use Rattle.sym_chunks.proofs.CaseLaws.{Branch}
use Rattle.sym_chunks.proofs.PlaceLaws.{each_place}

-- Q of each condition of each alternative
abbrev pub EachAtom : (PureAtom → Type 0) → Alternatives → Type 0
EachAtom Q x = Each (Each Q) x

-- offsets and bounds
abbrev pub limits_of : PureSub → PureTerm → List PureTerm
limits_of (cell i) t = i ∷ []
limits_of bound t = t ∷ []
limits_of _ t = []

abbrev pub number : ℤ → PureTerm
number k = literal (Literal.Int k)

-- A reading: Q of the conditions that compare terms that are comparable or ordered and ask kinds of terms that are given; R of each
-- term of a state and of a result; N of what chunks hold; Missed of the subkeys that are missed.
pub record Reading : Type 1 where
  pub Q : PureAtom → Type 0
  pub Comparable : PureTerm → PureTerm → Type 0
  pub Ordered : PureTerm → PureTerm → Type 0
  pub Side : PureTerm → Type 0
  pub Given : PureTerm → Type 0
  pub Near : PureTerm → Type 0
  pub R : PureTerm → Type 0
  pub N : PureSub → PureTerm → Type 0
  pub Missed : PureSub → Type 0
  pub are_equal : (s t : PureTerm) → Comparable s t → compared s t ≡ Comparison.Unsure → Q (positive (equal s t))
  pub are_other : (s t : PureTerm) → Comparable s t → compared s t ≡ Comparison.Unsure → Q (negative (equal s t))
  pub are_less : (s t : PureTerm) → Ordered s t → may_be_ordered s t ≡ true → compared s t ≡ Comparison.Unsure → Q (positive (less_than s t))
  pub are_at_most : (s t : PureTerm) → Ordered s t → may_be_ordered s t ≡ true → compared s t ≡ Comparison.Unsure → Q (positive (not_above s t))
  pub is_kind : (t : PureTerm) (k : Kind) → Given t → IsTrue (is_asked_kind (literal (Literal.Kind k))) → known_kind t ≡ None
      → Q (positive (kind_is t k))
  pub isnt_kind : (t : PureTerm) (k : Kind) → Given t → IsTrue (is_asked_kind (literal (Literal.Kind k))) → known_kind t ≡ None
      → Q (negative (kind_is t k))
  pub sides : (s t : PureTerm) → Side s → Side t → Comparable s t
  pub side_elements : (ts : PureTerms) → Side (list_of ts) → Each Side (to_list ts)
  pub given_elements : (ts : PureTerms) → Given (list_of ts) → Each Given (to_list ts)
  pub given_side : (t : PureTerm) → Given t → Side t
  pub given_near : (t : PureTerm) → Given t → Near t
  pub r_text : (k : List ℕ) → R (literal (Literal.Str k))
  pub r_true : R true_term

-- where a condition is asked of chunks, the reading of what they hold
module _ (g : Reading) where
  -- where the location of a chunk is near, its terms that may be compared
  pub record ChunkSides (c : PureChunk) : Type 0 where
    pub loc : g.Near c.loc → g.Side c.loc
    pub near : (l : PureTerm) → g.Near l → IsTrue (may_be_same l c.loc) → g.Near c.loc
    pub places : g.Near c.loc → Each g.Side (sub_terms c.sub)
    pub described : g.Near c.loc → Each g.Side (value_where_described c.sub c.val)
    pub cells : g.Near c.loc → Each (λ i. (k : ℤ) → g.R (number k) → g.Comparable (number k) i) (offset_of c.sub)
    pub limits : g.Near c.loc → Each (λ u. (t : PureTerm) → g.Given t → g.Ordered t u × g.Ordered u t) (limits_of c.sub c.val)

  -- where it is near, the literal forms that may be needed
  abbrev pub ChunkForms : PureChunk → Type 0
  ChunkForms c = g.Near c.loc → Each (λ t. is_list_term t ≡ false → is_literal t ≡ false → g.Q (opening t)) (value_where_described c.sub c.val)

  pub record IsFine (c : PureChunk) : Type 0 where
    pub terms : ChunkTerms g.R c
    pub holds : g.N c.sub c.val

  abbrev pub IsFineState : List PureChunk → Type 0
  IsFineState cs = Each IsFine cs

  abbrev pub IsFineResult : PureResult → Type 0
  IsFineResult (done t) = g.R t
  IsFineResult (failed t) = g.R t
  IsFineResult (missed k) = g.R k.loc × (Each g.R (sub_terms k.sub) × g.Missed k.sub)

  pub record Shaped (b : Branch) : Type 0 where
    pub conds : Each g.Q b.conds
    pub state : IsFineState b.state
    pub result : IsFineResult b.result

  pub fine_terms : (r : PureResult) → IsFineResult r → Each g.R (result_terms r)
  fine_terms (done t) fine = (fine, tt)
  fine_terms (failed t) fine = (fine, tt)
  fine_terms (missed k) fine = (fine.0, fine.1.0)

  -- ---- alternatives

  abbrev EachQ : Alternatives → Type 0
  EachQ x = EachAtom g.Q x

  always_shaped : EachQ always
  always_shaped = (tt, tt)

  before_shaped : (a : List PureAtom) (y : Alternatives) → Each g.Q a → EachQ y → EachQ (map (λ b. a ++ b) y)
  before_shaped a [] first second = tt
  before_shaped a (b ∷ y) first second = (each_append g.Q a b first second.0, before_shaped a y first second.1)

  pub both_shaped : (x y : Alternatives) → EachQ x → EachQ y → EachQ (both x y)
  both_shaped [] y first second = tt
  both_shaped (a ∷ x) y first second = each_append (Each g.Q) (map (λ b. a ++ b) y) (both x y) (before_shaped a y first.0 second) (both_shaped x y first.1 second)

  pub or_shaped : (x y : Alternatives) → EachQ x → EachQ y → EachQ (x ++ y)
  or_shaped x y first second = each_append (Each g.Q) x y first second

  with_form_shaped : (t : PureTerm) (x : Alternatives) → g.Q (opening t) → EachQ x → EachQ (with_form t x)
  with_form_shaped t [] is all = tt
  with_form_shaped t (conds ∷ x) is all = ((is, all.0), with_form_shaped t x is all.1)

  pub form_shaped : (t : PureTerm) (x : Alternatives) → (is_list_term t ≡ false → is_literal t ≡ false → g.Q (opening t)) → EachQ x → EachQ (form_of t x)
  form_shaped (list_of ts) x form all = tt
  form_shaped (literal k) x form all = tt
  form_shaped (variable y) x form all = with_form_shaped (variable y) x (form refl refl) all
  form_shaped (unary_of op t) x form all = with_form_shaped (unary_of op t) x (form refl refl) all
  form_shaped (binary_of op s t) x form all = with_form_shaped (binary_of op s t) x (form refl refl) all

  pub form_never : (t : PureTerm) → form_of t never ≡ never
  form_never (list_of ts) = refl
  form_never (literal k) = refl
  form_never (variable y) = refl
  form_never (unary_of op t) = refl
  form_never (binary_of op s t) = refl

  by_same : (s t : PureTerm) → g.Comparable s t → (c : Comparison) → compared s t ≡ c → EachQ (by_comparison c always never (given (positive (equal s t))))
  by_same s t may Comparison.Same is = always_shaped
  by_same s t may Comparison.Different is = tt
  by_same s t may Comparison.Unsure is = ((g.are_equal s t may is, tt), tt)

  pub same_shaped : (s t : PureTerm) → g.Comparable s t → EachQ (same s t)
  same_shaped s t may = by_same s t may (compared s t) refl

  by_other : (s t : PureTerm) → g.Comparable s t → (c : Comparison) → compared s t ≡ c → EachQ (by_comparison c never always (given (negative (equal s t))))
  by_other s t may Comparison.Same is = tt
  by_other s t may Comparison.Different is = always_shaped
  by_other s t may Comparison.Unsure is = ((g.are_other s t may is, tt), tt)

  pub other_shaped : (s t : PureTerm) → g.Comparable s t → EachQ (other s t)
  other_shaped s t may = by_other s t may (compared s t) refl

  if_shaped : (b : Bool) (x y : Alternatives) → EachQ x → EachQ y → EachQ (if b then x else y)
  if_shaped true x y first second = first
  if_shaped false x y first second = second

  module _ (s t : PureTerm) (may : g.Ordered s t) where
    literals_shaped : (s t : PureTerm) → EachQ (literals_less s t) × EachQ (literals_at_most s t)
    literals_shaped (literal (Literal.Int m)) (literal (Literal.Int n)) = (if_shaped _ always never always_shaped tt, if_shaped _ always never always_shaped tt)
    literals_shaped s t = (tt, tt)

    less_by : (c : Comparison) → compared s t ≡ c → may_be_ordered s t ≡ true → EachQ (by_comparison c never (literals_less s t) (given (positive (less_than s t))))
    less_by Comparison.Same is ordered = tt
    less_by Comparison.Different is ordered = (literals_shaped s t).0
    less_by Comparison.Unsure is ordered = ((g.are_less s t may ordered is, tt), tt)

    less_if : (b : Bool) → may_be_ordered s t ≡ b → EachQ (if b then by_comparison (compared s t) never (literals_less s t) (given (positive (less_than s t))) else never)
    less_if true ordered = less_by (compared s t) refl ordered
    less_if false ordered = tt

    pub less_shaped : EachQ (less s t)
    less_shaped = less_if (may_be_ordered s t) refl

    at_most_by : (c : Comparison) → compared s t ≡ c → may_be_ordered s t ≡ true → EachQ (by_comparison c always (literals_at_most s t) (given (positive (not_above s t))))
    at_most_by Comparison.Same is ordered = always_shaped
    at_most_by Comparison.Different is ordered = (literals_shaped s t).1
    at_most_by Comparison.Unsure is ordered = ((g.are_at_most s t may ordered is, tt), tt)

    at_most_if : (b : Bool) → may_be_ordered s t ≡ b → EachQ (if b then by_comparison (compared s t) always (literals_at_most s t) (given (positive (not_above s t))) else never)
    at_most_if true ordered = at_most_by (compared s t) refl ordered
    at_most_if false ordered = tt

    pub at_most_shaped : EachQ (at_most s t)
    at_most_shaped = at_most_if (may_be_ordered s t) refl

  pub outside_shaped : (i n : PureTerm) → g.Ordered i zero_term → g.Ordered n i → EachQ (outside i n)
  outside_shaped i n below above = or_shaped (less i zero_term) (at_most n i) (less_shaped i zero_term below) (at_most_shaped n i above)

  pub inside_shaped : (i n : PureTerm) → g.Ordered zero_term i → g.Ordered i n → EachQ (inside i n)
  inside_shaped i n above below = both_shaped (at_most zero_term i) (less i n) (at_most_shaped zero_term i above) (less_shaped i n below)

  module _ (t : PureTerm) (k : Kind) (asked : g.Given t) (own : IsTrue (is_asked_kind (literal (Literal.Kind k)))) where
    by_known : (o : Option Kind) → known_kind t ≡ o → EachQ (by_kind o k always never (given (positive (kind_is t k))))
    by_known (Some l) is = if_shaped (same_kind l k) always never always_shaped tt
    by_known None is = ((g.is_kind t k asked own is, tt), tt)

    pub kind_shaped : EachQ (of_kind t k)
    kind_shaped = by_known (known_kind t) refl

    by_unknown : (o : Option Kind) → known_kind t ≡ o → EachQ (by_kind o k never always (given (negative (kind_is t k))))
    by_unknown (Some l) is = if_shaped (same_kind l k) never always tt always_shaped
    by_unknown None is = ((g.isnt_kind t k asked own is, tt), tt)

    pub not_kind_shaped : EachQ (not_of_kind t k)
    not_kind_shaped = by_unknown (known_kind t) refl

  -- a term whose kind is known and another
  wrong_by : (o : Option Kind) (k : Kind) (x y : Alternatives) → allows o k ≡ false → (by_kind o k always never x ≡ never) × (by_kind o k never always y ≡ always)
  wrong_by (Some l) k x y wrong = (ap (λ b. if b then always else never) wrong, ap (λ b. if b then never else always) wrong)
  wrong_by None k x y wrong = absurd (true≢false wrong)

  pub wrong_kind : (t : PureTerm) (k : Kind) → allows (known_kind t) k ≡ false → (of_kind t k ≡ never) × (not_of_kind t k ≡ always)
  wrong_kind t k = wrong_by (known_kind t) k (given (positive (kind_is t k))) (given (negative (kind_is t k)))

  pub any_shaped : {A : Type 0} (f : A → Alternatives) (es : List A) → Each (λ e. EachQ (f e)) es → EachQ (any f es)
  any_shaped f es each = each_flat (Each g.Q) f es each

  pub all_shaped : {A : Type 0} (x : Alternatives) (f : A → Alternatives) (es : List A) → EachQ x → Each (λ e. EachQ (f e)) es → EachQ (all_from x f es)
  all_shaped x f [] first each = first
  all_shaped x f (e ∷ es) first each = all_shaped (both x (f e)) f es (both_shaped x (f e) first each.0) each.1

  pub both_never : (x : Alternatives) → both x never ≡ never
  both_never [] = refl
  both_never (conds ∷ x) = both_never x

  pub ends_always : (x : Alternatives) → list_any is_empty (x ++ always) ≡ true
  ends_always [] = refl
  ends_always ([] ∷ x) = refl
  ends_always ((a ∷ conds) ∷ x) = ends_always x

  -- ---- names

  pub same_each : (s : PureTerm) (ts : List PureTerm) → g.Side s → Each g.Side ts → EachQ (any (same s) ts)
  same_each s ts side all_sides = any_shaped (same s) ts (each_to g.Side (λ t. EachQ (same s t)) ts (λ t second. same_shaped s t (g.sides s t side second)) all_sides)

  pub other_each : (x : Alternatives) (s : PureTerm) (ts : List PureTerm) → EachQ x → g.Side s → Each g.Side ts → EachQ (all_from x (other s) ts)
  other_each x s ts first side all_sides = all_shaped x (other s) ts first (each_to g.Side (λ t. EachQ (other s t)) ts (λ t second. other_shaped s t (g.sides s t side second)) all_sides)

  pub listed_shaped : (p t : PureTerm) → g.Side p → g.Side t → EachQ (listed p t)
  listed_shaped p (list_of ts) side_p side = same_each p (to_list ts) side_p (g.side_elements ts side)
  listed_shaped p t side_p side = tt

  pub unlisted_shaped : (p t : PureTerm) → g.Side p → g.Side t → EachQ (unlisted p t)
  unlisted_shaped p (list_of ts) side_p side = other_each always p (to_list ts) always_shaped side_p (g.side_elements ts side)
  unlisted_shaped p t side_p side = tt

  unless_shaped : (b : Bool) (x : Alternatives) → EachQ x → EachQ (if b then never else x)
  unless_shaped true x shaped = tt
  unless_shaped false x shaped = shaped

  pub unheld_shaped : (p m : PureTerm) (cs : List PureChunk) (t : PureTerm) → g.Side p → g.Side t → EachQ (unheld p m cs t)
  unheld_shaped p m cs (list_of ts) side_p side =
      any_shaped (unheld_name p m cs) (to_list ts)
      (each_to g.Side (λ e. EachQ (unheld_name p m cs e)) (to_list ts) (λ e side_e. unless_shaped (holds_name m cs e) (same p e) (same_shaped p e (g.sides p e side_p side_e))) (g.side_elements ts side))
  unheld_shaped p m cs t side_p side = tt

  pub distinct_shaped : (x : Alternatives) (ds : List PureTerm) → EachQ x → Each g.Given ds → EachQ (distinct_from x ds)
  distinct_shaped x [] first all_given = first
  distinct_shaped x (d ∷ ds) first all_given =
      distinct_shaped (all_from (both x (of_kind d Kind.Str)) (other d) ds) ds
      (other_each (both x (of_kind d Kind.Str)) d ds (both_shaped x (of_kind d Kind.Str) first (kind_shaped d Kind.Str all_given.0 refl)) (g.given_side d all_given.0) (each_to g.Given g.Side ds g.given_side all_given.1)) all_given.1

  -- ---- keys

  -- the conditions on the subkey of a chunk that is near
  abbrev pub SubShaped : PureSub → Type 0
  SubShaped s = (c : PureChunk) → ChunkSides c → g.Near c.loc → EachQ (same_sub s c.sub) × EachQ (other_sub s c.sub)

  by_sub : (s u : PureSub) → (Each g.Side (sub_terms u) → Each g.Side (sub_terms s)) → Each g.Side (sub_terms u) → EachQ (same_sub s u) × EachQ (other_sub s u)
  by_sub (named p) (named q) side side_u = let may = g.sides p q (side side_u).0 side_u.0 in (same_shaped p q may, other_shaped p q may)
  by_sub (cell p) (cell q) side side_u = let may = g.sides p q (side side_u).0 side_u.0 in (same_shaped p q may, other_shaped p q may)
  by_sub shape shape side side_u = (always_shaped, tt)
  by_sub bound bound side side_u = (always_shaped, tt)
  by_sub dom dom side side_u = (always_shaped, tt)
  by_sub proto proto side side_u = (always_shaped, tt)
  by_sub gone gone side side_u = (always_shaped, tt)
  by_sub s u side side_u = (tt, always_shaped)

  pub side_sub : (s : PureSub) → Each g.Side (sub_terms s) → SubShaped s
  side_sub s side c c_sides near = by_sub s c.sub (λ side_u. side) (c_sides.places near)

  by_cell : (k : ℤ) (u : PureSub) → Each (λ i. g.Comparable (number k) i) (offset_of u) → EachQ (same_sub (cell (number k)) u) × EachQ (other_sub (cell (number k)) u)
  by_cell k (cell q) may = (same_shaped (number k) q may.0, other_shaped (number k) q may.0)
  by_cell k u may = (tt, always_shaped)

  pub literal_cell : (k : ℤ) → g.R (number k) → SubShaped (cell (number k))
  literal_cell k r c c_sides near =
      by_cell k c.sub (each_to (λ i. (k : ℤ) → g.R (number k) → g.Comparable (number k) i) (λ i. g.Comparable (number k) i) (offset_of c.sub) (λ i may. may k r) (c_sides.cells near))

  module _ (l : PureTerm) (side_l : g.Side l) (near_l : g.Near l) where
    -- a place is near, or it is surely another one
    module _ (m : PureTerm) (nears : IsTrue (may_be_same l m) → g.Near m) where
      near_or_by : (a b : Bool) → same_term l m ≡ a → are_apart l m ≡ b → g.Near m ⊎ ((if a then Comparison.Same else if b then Comparison.Different else Comparison.Unsure) ≡ Comparison.Different)
      near_or_by true b is_a is_b = inl (nears (λ i. is_a i || not (is_b i)))
      near_or_by false true is_a is_b = inr refl
      near_or_by false false is_a is_b = inl (nears (λ i. is_a i || not (is_b i)))

      near_or_apart : g.Near m ⊎ (compared l m ≡ Comparison.Different)
      near_or_apart = near_or_by (same_term l m) (are_apart l m) refl refl

      pub near_or_never : g.Near m ⊎ (same l m ≡ never)
      near_or_never = ⊎_elim inl (λ e. inr (ap (λ k. by_comparison k always never (given (positive (equal l m)))) e)) near_or_apart

      near_or_other : g.Near m ⊎ ((same l m ≡ never) × (other l m ≡ always))
      near_or_other = ⊎_elim inl (λ e. inr (ap (λ k. by_comparison k always never (given (positive (equal l m)))) e, ap (λ k. by_comparison k never always (given (negative (equal l m)))) e)) near_or_apart

      elsewhere_by : (x : Alternatives) (b : Bool) → (g.Near m → g.Side m) → (g.Near m → EachQ x) → EachQ (if b then always else other l m ++ both (same l m) x)
      elsewhere_by x true side shaped_x = always_shaped
      elsewhere_by x false side shaped_x =
          ⊎_elim
          (λ near. let may = g.sides l m side_l (side near) in or_shaped (other l m) (both (same l m) x) (other_shaped l m may) (both_shaped (same l m) x (same_shaped l m may) (shaped_x near)))
          (λ e. subst (λ y. EachQ (y ++ both (same l m) x)) (sym e.1) (subst (λ y. EachQ (always ++ both y x)) (sym e.0) always_shaped))
          near_or_other

      pub elsewhere_shaped : (x : Alternatives) → (g.Near m → g.Side m) → (g.Near m → EachQ x) → EachQ (elsewhere_or l m x)
      elsewhere_shaped x side shaped_x = elsewhere_by x (list_any is_empty x) side shaped_x

    module _ (c : PureChunk) (c_sides : ChunkSides c) where
      pub loc_near_or_never : g.Near c.loc ⊎ (same l c.loc ≡ never)
      loc_near_or_never = near_or_never c.loc (c_sides.near l near_l)

      pub loc_same : EachQ (same l c.loc)
      loc_same = ⊎_elim (λ near. same_shaped l c.loc (g.sides l c.loc side_l (c_sides.loc near))) (λ e. subst EachQ (sym e) tt) loc_near_or_never

      pub where_same : (y : Alternatives) → (g.Near c.loc → EachQ y) → EachQ (both (same l c.loc) y)
      where_same y shaped_y =
          ⊎_elim (λ near. both_shaped (same l c.loc) y loc_same (shaped_y near)) (λ e. subst (λ x. EachQ (both x y)) (sym e) tt) loc_near_or_never

      pub key_shaped : (s : PureSub) → SubShaped s → EachQ (at_key l s c)
      key_shaped s shaped_s = where_same (same_sub s c.sub) (λ near. (shaped_s c c_sides near).0)

    -- ---- all chunks

    module _ (f : PureChunk → Alternatives) (f_shaped : (c : PureChunk) → ChunkSides c → g.Near c.loc → EachQ (f c)) where
      at_by : (m : PureTerm) (near : g.Near m) (c : PureChunk) → ChunkSides c → (x : Alternatives) → EachQ x → (b : Bool) → same_term c.loc m ≡ b → EachQ (if b then both x (f c) else x)
      at_by m near c c_sides x first true is = both_shaped x (f c) first (f_shaped c c_sides (subst g.Near (sym (same_term-same c.loc m is)) near))
      at_by m near c c_sides x first false is = first

      at_shaped : (m : PureTerm) → g.Near m → (x : Alternatives) (cs : List PureChunk) → EachQ x → Each ChunkSides cs → EachQ (all_at x f m cs)
      at_shaped m near x [] first all_sides = first
      at_shaped m near x (c ∷ cs) first all_sides = at_shaped m near (if same_term c.loc m then both x (f c) else x) cs (at_by m near c all_sides.0 x first (same_term c.loc m) refl) all_sides.1

      abbrev IsPlace : PureTerm → Type 0
      IsPlace m = (g.Near m → g.Side m) × (IsTrue (may_be_same l m) → g.Near m)

      pub by_place_shaped : (cs : List PureChunk) → Each ChunkSides cs → EachQ (all_by_place l f cs)
      by_place_shaped cs all_sides =
          all_shaped always (all_there l f cs) (places_of cs) always_shaped
          (each_to IsPlace (λ m. EachQ (all_there l f cs m)) (places_of cs)
          (λ m is. elsewhere_shaped m is.1 (all_at always f m cs) is.0 (λ near. at_shaped m near always cs always_shaped all_sides))
          (each_place IsPlace [] cs tt (each_to ChunkSides (λ c. IsPlace c.loc) cs (λ c c_sides. (c_sides.loc, c_sides.near l near_l)) all_sides)))

      pub any_at_shaped : (cs : List PureChunk) → Each ChunkSides cs → EachQ (any_at l f cs)
      any_at_shaped cs all_sides =
          any_shaped (λ (c : PureChunk). both (same l c.loc) (f c)) cs
          (each_to ChunkSides (λ c. EachQ (both (same l c.loc) (f c))) cs (λ c c_sides. where_same c c_sides (f c) (f_shaped c c_sides)) all_sides)

  -- ---- cases and branches

  pub record IsFineCase (c : PureCase) : Type 0 where
    pub when : EachQ c.when
    pub after : IsFineState c.after
    pub result : IsFineResult c.result

  pub fine_case : (when : Alternatives) (cs : List PureChunk) (r : PureResult) → EachQ when → IsFineState cs → IsFineResult r → Each IsFineCase (case_of when cs r)
  fine_case [] cs r conds state result = tt
  fine_case (a ∷ x) cs r conds state result = (record { when = conds; after = state; result = result }, tt)

  settled_shaped : (b : Bool) (x : Alternatives) → EachQ x → EachQ (if b then always else x)
  settled_shaped true x all = always_shaped
  settled_shaped false x all = all

  pub branches_shaped : (when : Alternatives) (cs : List PureChunk) (r : PureResult) → EachQ when → IsFineState cs → IsFineResult r → Each Shaped (branches_of when cs r)
  branches_shaped when cs r conds state result =
      each_map Shaped (λ a. record { conds = a; state = cs; result = r }) (settled when)
      (each_to (Each g.Q) (λ a. Shaped (record { conds = a; state = cs; result = r })) (settled when) (λ a is. record { conds = is; state = state; result = result })
      (settled_shaped (list_any is_empty when) when conds))

  pub failure_shaped : (when : Alternatives) (cs : List PureChunk) (why : Failure) → EachQ when → IsFineState cs → Each Shaped (branches_of when cs (failure why))
  failure_shaped when cs why conds state = branches_shaped when cs (failure why) conds state (g.r_text (failure_text why))

  -- where one alternative has no condition, the branch has none
  pub surely_shaped : (when : Alternatives) (cs : List PureChunk) (r : PureResult) → list_any is_empty when ≡ true → IsFineState cs → IsFineResult r → Each Shaped (branches_of when cs r)
  surely_shaped when cs r is state result =
      subst (λ b. Each Shaped (map (λ conds. record { conds = conds; state = cs; result = r }) (if b then always else when))) (sym is) (branches_shaped always cs r always_shaped state result)

  module _ (when : Alternatives) (conds : EachQ when) where
    cases_shaped : (cases : List PureCase) → Each IsFineCase cases → Each Shaped (flat_map (case_branches when) cases)
    cases_shaped cases fine =
        each_flat Shaped (case_branches when) cases
        (each_to IsFineCase (λ c. Each Shaped (case_branches when c)) cases (λ c is. branches_shaped (both when c.when) c.after c.result (both_shaped when c.when conds is.when) is.after is.result) fine)

    first_if : (P : PureCase → Type 0) (d : PureCase) (cases : List PureCase) (c : PureCase) → P d → (sure_case cases ≡ Some c → P c) → (b : Bool) → (if b then Some d else sure_case cases) ≡ Some c → P c
    first_if P d cases c here later true e = subst P (same_some e) here
    first_if P d cases c here later false e = later e

    first_of : (P : PureCase → Type 0) (cases : List PureCase) → Each P cases → (c : PureCase) → sure_case cases ≡ Some c → P c
    first_of P [] each c is = not_none is
    first_of P (d ∷ cases) each c is = first_if P d cases c each.0 (first_of P cases each.1 c) (list_any is_empty d.when) is

    chosen_by : (cases : List PureCase) → Each IsFineCase cases → (o : Option PureCase) → sure_case cases ≡ o → Each Shaped (choose_by when cases o)
    chosen_by cases fine None is = cases_shaped cases fine
    chosen_by cases fine (Some c) is = let fine_c = first_of IsFineCase cases fine c is in branches_shaped when c.after c.result conds fine_c.after fine_c.result

    pub chosen_shaped : (cases : List PureCase) → Each IsFineCase cases → Each Shaped (choose when cases)
    chosen_shaped cases fine = chosen_by cases fine (sure_case cases) refl

  -- ---- chunks that are found

  each_removed : {A : Type 0} (P : A → Type 0) (xs : List A) (i : ℕ) → Each P xs → Each P (remove xs i)
  each_removed P [] zero all_hold = tt
  each_removed P [] (suc i) all_hold = tt
  each_removed P (x ∷ xs) zero all_hold = all_hold.1
  each_removed P (x ∷ xs) (suc i) all_hold = (all_hold.0, each_removed P xs i all_hold.1)

  described_there : (s : PureSub) (t : PureTerm) → g.R t → Each g.R (value_where_described s t) × Each g.R (value_where_held s t)
  described_there (named u) t r = (tt, (r, tt))
  described_there (cell u) t r = (tt, (r, tt))
  described_there shape t r = ((r, tt), tt)
  described_there bound t r = ((r, tt), tt)
  described_there dom t r = ((r, tt), tt)
  described_there proto t r = (tt, (r, tt))
  described_there gone t r = (tt, (r, tt))

  -- a chunk whose terms are fine
  pub fine_chunk : (c : PureChunk) → g.R c.loc → Each g.R (sub_terms c.sub) → g.R c.val → g.N c.sub c.val → IsFine c
  fine_chunk c r_loc r_sub r_val n = let parts = described_there c.sub c.val r_val in record { terms = record { places = (r_loc, r_sub); described = parts.0; held = parts.1 }; holds = n }

  pub fine_held : (cs : List PureChunk) (i : ℕ) (t : PureTerm) (c : PureChunk) → slice_get cs i ≡ Some c → g.R t → g.N c.sub t → IsFineState cs → IsFineState (with_held cs i t)
  fine_held [] i t c there r n state = tt
  fine_held (d ∷ cs) zero t c there r n state = (fine_chunk (record d { val = t }) state.0.terms.places.0 state.0.terms.places.1 r (subst (λ (e : PureChunk). g.N e.sub t) (sym (same_some there)) n), state.1)
  fine_held (d ∷ cs) (suc i) t c there r n state = (state.0, fine_held cs i t c there r n state.1)

  -- what is done with a chunk of the subkey s keeps states fine
  abbrev pub IsFineAccess : PureAccess → PureSub → Type 0
  IsFineAccess reads s = ⊤
  IsFineAccess (writes t) s = g.R t × ((c : PureChunk) → (same_sub s c.sub ≡ never) ⊎ g.N c.sub t)
  IsFineAccess takes s = (c : PureChunk) → IsFine c → g.R (outs_listed c)

  module _ (a : PureAccess) (l : PureTerm) (s : PureSub) (side_l : g.Side l) (near_l : g.Near l) (shaped_s : SubShaped s) (fine_a : IsFineAccess a s) (cs : List PureChunk) (state : IsFineState cs) where
    found_by : (a : PureAccess) → IsFineAccess a s → (i : ℕ) (c : PureChunk) → slice_get cs i ≡ Some c → IsFine c → EachQ (at_key l s c) → Each IsFineCase (case_of (at_key l s c) (accessed a cs i) (given_back a c))
    found_by reads fine i c there fine_c conds = fine_case (at_key l s c) cs (done c.val) conds state (chunk_val g.R c fine_c.terms)
    found_by (writes t) fine i c there fine_c conds =
        ⊎_elim
        (λ e. subst (λ x. Each IsFineCase (case_of x (with_held cs i t) (done t))) (sym (ap (both (same l c.loc)) e ∙ both_never (same l c.loc))) tt)
        (λ n. fine_case (at_key l s c) (with_held cs i t) (done t) conds (fine_held cs i t c there fine.0 n state) fine.0)
        (fine.1 c)
    found_by takes fine i c there fine_c conds = fine_case (at_key l s c) (remove cs i) (done (outs_listed c)) conds (each_removed IsFine cs i state) (fine c fine_c)

    from_shaped : (i : ℕ) (ds : List PureChunk) → Each ChunkSides ds → Each IsFine ds → ((j : ℕ) (c : PureChunk) → slice_get ds j ≡ Some c → slice_get cs (i + j) ≡ Some c) → Each IsFineCase (found_from a l s cs i ds)
    from_shaped i [] all_sides fine places = tt
    from_shaped i (c ∷ ds) all_sides fine places =
        each_append IsFineCase (case_of (at_key l s c) (accessed a cs i) (given_back a c)) (found_from a l s cs (i + 1) ds)
        (found_by a fine_a i c (ap (slice_get cs) (omega arith) ∙ places 0 c refl) fine.0 (key_shaped l side_l near_l c all_sides.0 s shaped_s))
        (from_shaped (i + 1) ds all_sides.1 fine.1 (λ j d at. ap (slice_get cs) (omega arith) ∙ places (suc j) d at))

    pub found_shaped : Each ChunkSides cs → Each IsFineCase (found a l s cs)
    found_shaped all_sides = from_shaped 0 cs all_sides state (λ j c at. ap (slice_get cs) (omega arith) ∙ at)

  -- ---- walks

  pub record IsFineWay (w : PureWay) : Type 0 where
    pub when : EachQ w.when
    pub fine : IsFineState w.left
    pub left_sides : Each ChunkSides w.left

  pub fine_way : (x : Alternatives) (left : List PureChunk) → EachQ x → IsFineState left → Each ChunkSides left → Each IsFineWay (way_of x left)
  fine_way [] left conds fine left_sides = tt
  fine_way (conds ∷ x) left all_conds fine left_sides = (record { when = all_conds; fine = fine; left_sides = left_sides }, tt)

  pub way_without : (cs : List PureChunk) (i : ℕ) (x : Alternatives) → EachQ x → IsFineState cs → Each ChunkSides cs → Each IsFineWay (way_of x (remove cs i))
  way_without cs i x conds fine sides = fine_way x (remove cs i) conds (each_removed IsFine cs i fine) (each_removed ChunkSides cs i sides)

  abbrev pub IsFineSub : PureSub → Type 0
  IsFineSub s = SubShaped s × (Each g.R (sub_terms s) × g.Missed s)

  module _ (n_gone : g.N gone true_term) (cs : List PureChunk) (state : IsFineState cs) (l : PureTerm) (side_l : g.Side l) (near_l : g.Near l) (r_l : g.R l) where
    module _ (s : PureSub) (fine_s : IsFineSub s) (w : PureWay) (is : IsFineWay w) where
      ways_shaped : (i : ℕ) (es : List PureChunk) → Each ChunkSides es → Each IsFineWay (ways_from l s w i es)
      ways_shaped i [] all_sides = tt
      ways_shaped i (c ∷ es) all_sides =
          each_append IsFineWay (way_of (both w.when (at_key l s c)) (remove w.left i)) (ways_from l s w (i + 1) es)
          (way_without w.left i (both w.when (at_key l s c)) (both_shaped w.when (at_key l s c) is.when (key_shaped l side_l near_l c all_sides.0 s fine_s.0)) is.fine is.left_sides)
          (ways_shaped (i + 1) es all_sides.1)

      ways_by_shaped : (o : Option ℕ) → Each IsFineWay (ways_by l s w o)
      ways_by_shaped (Some i) = way_without w.left i w.when is.when is.fine is.left_sides
      ways_by_shaped None = ways_shaped 0 w.left is.left_sides

      next_shaped : Each IsFineWay (next_ways l s w)
      next_shaped = ways_by_shaped (sure_place l s 0 w.left)

      missing_shaped : Each IsFineCase (missing_key cs l s w)
      missing_shaped =
          fine_case (both w.when (all_by_place l (λ c. other_sub s c.sub) w.left)) cs (missed (record { loc = l; sub = s }))
          (both_shaped w.when (all_by_place l (λ c. other_sub s c.sub) w.left) is.when (by_place_shaped l side_l near_l (λ c. other_sub s c.sub) (λ c c_sides near. (fine_s.0 c c_sides near).1) w.left is.left_sides))
          state (r_l, (fine_s.1.0, fine_s.1.1))

    taken_shaped : (w : PureWay) → IsFineWay w → Each IsFineCase (all_taken l w)
    taken_shaped w is =
        fine_case w.when (w.left ++ record { loc = l; sub = gone; val = true_term } ∷ []) (done true_term) is.when
        (each_append IsFine w.left (record { loc = l; sub = gone; val = true_term } ∷ []) is.fine (fine_chunk (record { loc = l; sub = gone; val = true_term }) r_l tt g.r_true n_gone, tt))
        g.r_true

    pub walk_shaped : (ss : List PureSub) → Each IsFineSub ss → (ws : List PureWay) → Each IsFineWay ws → Each IsFineCase (walk cs l ss ws)
    walk_shaped [] all_subs ws fine = each_flat IsFineCase (all_taken l) ws (each_to IsFineWay (λ w. Each IsFineCase (all_taken l w)) ws taken_shaped fine)
    walk_shaped (s ∷ ss) all_subs ws fine =
        each_append IsFineCase (flat_map (missing_key cs l s) ws) (walk cs l ss (flat_map (next_ways l s) ws))
        (each_flat IsFineCase (missing_key cs l s) ws (each_to IsFineWay (λ w. Each IsFineCase (missing_key cs l s w)) ws (missing_shaped s all_subs.0) fine))
        (walk_shaped ss all_subs.1 (flat_map (next_ways l s) ws)
        (each_flat IsFineWay (next_ways l s) ws (each_to IsFineWay (λ w. Each IsFineWay (next_ways l s w)) ws (next_shaped s all_subs.0) fine)))

  pub no_ways_walk : (cs : List PureChunk) (l : PureTerm) (ss : List PureSub) → walk cs l ss [] ≡ []
  no_ways_walk cs l [] = refl
  no_ways_walk cs l (s ∷ ss) = no_ways_walk cs l ss
