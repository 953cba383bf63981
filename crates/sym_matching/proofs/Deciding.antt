-- Which conditions tests and splits have over plain terms.
use Rattle.std.proofs.Common.{◌≡◌, ℕ, ◌+◌, ◌≤◌, pos, neg_ℤ, List, [], ◌++◌, map, Bool, true, false, not, ◌&&◌, ◌||◌, if◌then◌else◌, Option, Some, None, refl, sym, ap, subst, ◌∙◌, true≢false, arith}
use Rattle.std.specs.List.{list_all}
use Rattle.std.specs.Option.{option_map}
use Rattle.std.proofs.lemmas.Bool.{and_parts, and_from}
use Rattle.std.proofs.lemmas.Grind.{flat_map-append}
use Rattle.std.proofs.lemmas.List.Folds.{list_all-append}
use Rattle.gil_values.specs.declared.kinds.Kind.{Kind}
use Rattle.gil_values.specs.declared.operators.BinOp.{BinOp}
use Rattle.gil_values.specs.Equality.{same_kind}
use Rattle.gil_syntax.specs.declared.assertions.SpecSort.{SpecSort}
use Rattle.gil_syntax.specs.Pure.{PureExpr, binary_of as operands_of, pure}
use Rattle.gil_syntax.specs.Simple.{is_plain_value}
use Rattle.gil_syntax.specs.Subexpressions.{subexpressions, own_literals, literals_of}
use Rattle.pure_terms.specs.declared.variables.Sort.{Sort}
use Rattle.pure_terms.specs.Fragment.{is_plain, is_simple, is_flat, names_sort, is_kind_test, has_literals_between}
use Rattle.pure_terms.specs.Kinds.{kind_of_literal, kind_of_unary, known_kind}
use Rattle.pure_terms.specs.Pure.{PureTerm, literal, variable, list_of, unary_of, binary_of, PureAtom, positive, negative}
use Rattle.sym_model.specs.declared.comparing.Comparison.{Comparison}
use Rattle.sym_model.specs.Alternatives.{Alternatives, always, never, given, by_comparison, equal, by_kind, kind_is}
use Rattle.sym_model.specs.Comparing.{compared}
use Rattle.sym_evaluation.specs.Plainly.{IsPlain, IsPlainStore, IsPlainGuard, is_plain_comparison, is_plain_guard, is_text_number, has_text_numbers, text_bound}
use Rattle.sym_evaluation.specs.Pure.{PureStore, PureGoodCase, PureSides}
use Rattle.sym_evaluation.specs.Questions.{OnSide, EachSide}
use Rattle.sym_evaluation.proofs.PlainGuards.{no_comparison}
use Rattle.sym_evaluation.proofs.PlainTerms.{plain_parts, plain_kind}
use Rattle.sym_model.specs.Laws.{IsDecidedWithin}
use Rattle.sym_model.specs.Lists.{Each}
use Rattle.sym_model.proofs.ListLaws.{each_append, each_map, each_to}
use Rattle.sym_paths.specs.Plain.{IsPlainItem, as_program}
use Rattle.sym_states.proofs.Plainness.{plain_up, decided_up}
use Rattle.sym_matching.specs.Parts.{Continues, DefinesPlainly}
use Rattle.sym_matching.specs.Plainly.{AreDecided, AreDecidedIfAny, IsTestDecided, IsFoundDecided, IsSplitDecided, TermStaysDecided, PureStaysPlain}
use Rattle.sym_matching.specs.Pure.{PureTest, PureSplit}
use Rattle.sym_matching.specs.Splitting.{behind_conds, also_by, also, passed, last_of, equal_test, kind_test, sort_test, side_alternatives, nothing, sure, case_behind, behind, with_result, where_met}

module _ (b : ℕ) where
  abbrev One : PureAtom → Type 0
  One a = IsDecidedWithin (neg_ℤ (pos b)) (pos b) a

  abbrev All : List PureAtom → Type 0
  All conds = AreDecided b conds

  -- ---- tests

  behind_decided : (conds : List PureAtom) (x : Alternatives) → All conds → Each All x → Each All (behind_conds conds x)
  behind_decided conds x first all =
      each_append All (map (λ c. conds ++ c) x) []
      (each_map All (λ c. conds ++ c) x (each_to All (λ c. All (conds ++ c)) x (λ c is. each_append One conds c first is) all))
      tt

  when_decided : (conds : List PureAtom) (o : Option (List PureAtom)) → All conds → AreDecidedIfAny b o → AreDecidedIfAny b (option_map (λ more. conds ++ more) o)
  when_decided conds None first second = tt
  when_decided conds (Some more) first second = each_append One conds more first second

  also_by_decided : (o : Option (List PureAtom)) (rest : Alternatives) (test : PureTest) → AreDecidedIfAny b o → Each All rest → IsTestDecided b test → IsTestDecided b (also_by o rest test)
  also_by_decided None rest test first others second = record { when = tt; otherwise = others }
  also_by_decided (Some conds) rest test first others second = record {
    when = when_decided conds test.when first second.when;
    otherwise = each_append All rest (behind_conds conds test.otherwise) others (behind_decided conds test.otherwise first second.otherwise);
  }

  pub also_decided : (test more : PureTest) → IsTestDecided b test → IsTestDecided b more → IsTestDecided b (also test more)
  also_decided test more first second = also_by_decided test.when test.otherwise more first.when first.otherwise second

  pub passed_decided : IsTestDecided b passed
  passed_decided = record { when = tt; otherwise = tt }

  -- ---- kinds

  tested_when : (c : Bool) → AreDecidedIfAny b (last_of (if c then always else never))
  tested_when true = tt
  tested_when false = tt

  tested_other : (c : Bool) → Each All (if c then never else always)
  tested_other true = tt
  tested_other false = (tt, tt)

  -- where the kind is known, nothing is asked of it
  kind_decided : (t : PureTerm) (j k : Kind) → known_kind t ≡ Some j → IsTestDecided b (kind_test t k)
  kind_decided t j k known =
      subst (λ o. IsTestDecided b (record { when = last_of (by_kind o k always never (given (positive (kind_is t k)))); otherwise = by_kind o k never always (given (negative (kind_is t k))) })) (sym known)
      (record { when = tested_when (same_kind j k); otherwise = tested_other (same_kind j k) })

  sort_by_kind : (sort : SpecSort) (t : PureTerm) (j : Kind) → known_kind t ≡ Some j → IsTestDecided b (sort_test sort t)
  sort_by_kind SpecSort.Int t j known = kind_decided t j Kind.Int known
  sort_by_kind SpecSort.Bool t j known = kind_decided t j Kind.Bool known
  sort_by_kind SpecSort.Str t j known = kind_decided t j Kind.Str known
  sort_by_kind SpecSort.Sym t j known = kind_decided t j Kind.Sym known
  sort_by_kind SpecSort.List t j known = kind_decided t j Kind.List known
  sort_by_kind SpecSort.Any t j known = passed_decided

  -- ---- guards

  side_decided : (o : Option (List PureAtom)) → OnSide One o → AreDecidedIfAny b o
  side_decided None on = tt
  side_decided (Some conds) on = on

  alternatives_decided : (o : Option (List PureAtom)) → OnSide One o → Each All (side_alternatives o)
  alternatives_decided None on = tt
  alternatives_decided (Some conds) on = (on, tt)

  pub guard_decided : (sides : PureSides) → EachSide One sides
      → IsTestDecided b (record { when = sides.when_true; otherwise = side_alternatives sides.when_false ++ side_alternatives sides.when_no_boolean })
  guard_decided sides each = record {
    when = side_decided sides.when_true each.0;
    otherwise = each_append All (side_alternatives sides.when_false) (side_alternatives sides.when_no_boolean) (alternatives_decided sides.when_false each.1) (alternatives_decided sides.when_no_boolean each.2);
  }

plain_or : (x : Bool) → (x || false) ≡ true → x ≡ true
plain_or true is = refl
plain_or false is = absurd (true≢false (sym is))

-- the kind of a plain guard is known
guard_kind : (t : PureTerm) → is_plain_guard t ≡ true → (k : Kind) × (known_kind t ≡ Some k)
guard_kind (literal l) is = (kind_of_literal l, refl)
guard_kind (variable x) is = plain_kind (variable x) (plain_or (is_plain (variable x)) is)
guard_kind (list_of ts) is = (Kind.List, refl)
guard_kind (unary_of op t) is = (kind_of_unary op, refl)
guard_kind (binary_of BinOp.Add s t) is = (Kind.Int, refl)
guard_kind (binary_of BinOp.Subtract s t) is = (Kind.Int, refl)
guard_kind (binary_of BinOp.Multiply s t) is = (Kind.Int, refl)
guard_kind (binary_of BinOp.Divide s t) is = (Kind.Int, refl)
guard_kind (binary_of BinOp.Remainder s t) is = (Kind.Int, refl)
guard_kind (binary_of BinOp.Equal s t) is = (Kind.Bool, refl)
guard_kind (binary_of BinOp.Less s t) is = (Kind.Bool, refl)
guard_kind (binary_of BinOp.LessOrEqual s t) is = (Kind.Bool, refl)
guard_kind (binary_of BinOp.And s t) is = (Kind.Bool, refl)
guard_kind (binary_of BinOp.Or s t) is = (Kind.Bool, refl)
guard_kind (binary_of BinOp.Append s t) is = no_comparison (is_plain s && is_plain t) false is refl
guard_kind (binary_of BinOp.Nth s t) is = no_comparison (is_plain s && is_plain t) false is refl

guard_from : (t : PureTerm) → is_plain t ≡ true → is_plain_guard t ≡ true
guard_from (literal l) is = refl
guard_from (variable x) is = λ i. is i || false
guard_from (list_of ts) is = λ i. is i || false
guard_from (unary_of op t) is = absurd (true≢false (sym is))
guard_from (binary_of op s t) is = λ i. is i || is_plain_comparison (binary_of op s t)

-- a plain term is a plain guard
pub plain_guard : (b : ℕ) (t : PureTerm) → IsPlain b t → IsPlainGuard b t
plain_guard b t plain = (guard_from t plain.0, plain.1)

pub sort_decided : (sort : SpecSort) (t : PureTerm) → TermStaysDecided t (sort_test sort t)
sort_decided sort t b guard = let (k, known) = guard_kind t guard.0 in sort_by_kind b sort t k known

-- ---- equality

or_ends : (c d : Bool) → (c || (d || true)) ≡ true
or_ends true d = refl
or_ends false true = refl
or_ends false false = refl

-- `=` of two plain terms has a form of the fragment
equal_form : (s t : PureTerm) → is_plain s ≡ true → is_plain t ≡ true → (kind flat rest : Bool)
    → (((is_simple s && is_simple t) || rest) && (not (names_sort Sort.List s || names_sort Sort.List t) && (kind || (flat || (not (names_sort Sort.Any s) && not (names_sort Sort.Any t)))))) ≡ true
equal_form s t plain_s plain_t kind flat rest =
    let p = plain_parts s plain_s in
    let q = plain_parts t plain_t in
    (λ i. ((p.0 i && q.0 i) || rest) && (not (p.2 i || q.2 i) && (kind || (flat || (not (p.1 i) && not (q.1 i))))))
    ∙ or_ends kind flat

pub equality_decided : (b : ℕ) (s t : PureTerm) → IsPlain b s → IsPlain b t → IsDecidedWithin (neg_ℤ (pos b)) (pos b) (positive (equal s t))
equality_decided b s t plain_s plain_t = (
  equal_form s t plain_s.0 plain_t.0 (is_kind_test (equal s t)) (is_flat s && is_flat t) _,
  and_from (has_literals_between (neg_ℤ (pos b)) (pos b) s) (has_literals_between (neg_ℤ (pos b)) (pos b) t) plain_s.1 plain_t.1,
)

module _ (b : ℕ) (s t : PureTerm) (plain_s : IsPlain b s) (plain_t : IsPlain b t) where
  equal_by : (c : Comparison) → IsTestDecided b (record { when = last_of (by_comparison c always never (given (positive (equal s t)))); otherwise = by_comparison c never always (given (negative (equal s t))) })
  equal_by Comparison.Same = record { when = tt; otherwise = tt }
  equal_by Comparison.Different = record { when = tt; otherwise = (tt, tt) }
  equal_by Comparison.Unsure = record { when = (equality_decided b s t plain_s plain_t, tt); otherwise = ((equality_decided b s t plain_s plain_t, tt), tt) }

  pub equal_decided : IsTestDecided b (equal_test s t)
  equal_decided = equal_by (compared s t)

-- ---- splits

module _ {X : Type 0} (P : X → Type 0) (b : ℕ) where
  pub sure_decided : (x : X) → P x → IsSplitDecided P b (sure x)
  sure_decided x holds = record { found = (tt, holds); none = tt }

  case_decided : (conds : List PureAtom) (o : Option (PureGoodCase X)) → AreDecided b conds → IsFoundDecided P b o → IsFoundDecided P b (option_map (case_behind conds) o)
  case_decided conds None first second = tt
  case_decided conds (Some g) first second = (each_append (One b) conds g.conds first second.0, second.1)

  behind_splits_decided : (conds : List PureAtom) (none : Alternatives) (next : PureSplit X) → AreDecided b conds → Each (AreDecided b) none → IsSplitDecided P b next
      → IsSplitDecided P b (behind conds none next)
  behind_splits_decided conds none next first others second = record {
    found = case_decided conds next.found first second.found;
    none = each_append (AreDecided b) none (behind_conds conds next.none) others (behind_decided b conds next.none first second.none);
  }

  pub never_decided : IsSplitDecided P b (nothing always)
  never_decided = record { found = tt; none = (tt, tt) }

  met_by : (x : X) (o : Option (List PureAtom)) → AreDecidedIfAny b o → P x → IsFoundDecided P b (option_map (with_result x) o)
  met_by x None conds holds = tt
  met_by x (Some conds) first holds = (first, holds)

  pub met_decided : (test : PureTest) (x : X) → IsTestDecided b test → P x → IsSplitDecided P b (where_met test x)
  met_decided test x of_test holds = record { found = met_by x test.when of_test.when holds; none = of_test.otherwise }

module _ {X Y : Type 0} (P : X → Type 0) (Q : Y → Type 0) (b : ℕ) (Cont : X → PureSplit Y → Type 0) where
  abbrev StepDecided : Option (PureGoodCase X) → Type 0
  StepDecided o = (g : PureGoodCase X) (next : PureSplit Y) → o ≡ Some g → Cont g.result next → P g.result → IsSplitDecided Q b next

  continues_by : (o : Option (PureGoodCase X)) (none : Alternatives) (whole : PureSplit Y) → IsFoundDecided P b o → Each (AreDecided b) none → Continues Cont o none whole → StepDecided o
      → IsSplitDecided Q b whole
  continues_by None none whole found others is step = subst (IsSplitDecided Q b) (sym is) (record { found = tt; none = others })
  continues_by (Some g) none whole found others (next, (cont, is)) step =
      subst (IsSplitDecided Q b) (sym is) (behind_splits_decided Q b g.conds none next found.0 others (step g next refl cont found.1))

  pub continues_decided : (first : PureSplit X) (whole : PureSplit Y) → IsSplitDecided P b first → Continues Cont first.found first.none whole → StepDecided first.found → IsSplitDecided Q b whole
  continues_decided first whole is cont step = continues_by first.found first.none whole is.found is.none cont step

-- with wider conditions
module _ {X : Type 0} (P : X → Type 0) (b d : ℕ) (le : b ≤ d) where
  conds_up : (conds : List PureAtom) → AreDecided b conds → AreDecided d conds
  conds_up conds is = each_to (One b) (One d) conds (decided_up b d le) is

  found_up : (o : Option (PureGoodCase X)) → IsFoundDecided P b o → IsFoundDecided P d o
  found_up None is = tt
  found_up (Some g) is = (conds_up g.conds is.0, is.1)

  pub split_up : (x : PureSplit X) → IsSplitDecided P b x → IsSplitDecided P d x
  split_up x is = record { found = found_up x.found is.found; none = each_to (AreDecided b) (AreDecided d) x.none conds_up is.none }

-- ---- stores

pub store_up : (b d : ℕ) → b ≤ d → (bs : PureStore) → IsPlainStore b bs → IsPlainStore d bs
store_up b d le bs is x t at = plain_up b d le t (is x t at)

pub wider : (b : ℕ) → b ≤ b + text_bound
wider b = omega arith

-- ---- pure items

-- what a plain pure item has
pub numbers_of : (e : PureExpr) → IsPlainItem (pure e) → has_text_numbers e ≡ true
numbers_of e item = (and_parts (has_text_numbers e) true item.numbers).0

-- the right side of an equation
pub equation_plainly : (d e : PureExpr) (bs : PureStore) (split : PureSplit PureStore) → DefinesPlainly e bs split → PureStaysPlain (operands_of BinOp.Equal d e) bs split
equation_plainly d e bs split plainly vars b over item =
    let form : (is_plain_value (as_program d) && is_plain_value (as_program e)) ≡ true = item.form in
    let parts : literals_of (operands_of BinOp.Equal d e) ≡ literals_of d ++ literals_of e = flat_map-append own_literals (subexpressions d) (subexpressions e) in
    let numbers : (has_text_numbers d && has_text_numbers e) ≡ true
    = sym (list_all-append is_text_number (literals_of d) (literals_of e)) ∙ sym (ap (list_all is_text_number) parts) ∙ numbers_of (operands_of BinOp.Equal d e) item in
    plainly vars b over (and_parts (is_plain_value (as_program d)) (is_plain_value (as_program e)) form).1 (and_parts (has_text_numbers d) (has_text_numbers e) numbers).1
