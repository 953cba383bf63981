-- What holds of the branches of one case, and of those that are chosen.
use Rattle.std.proofs.Common.{◌≡◌, ◌⊎◌, ⊎_elim, inl, inr, List, [], ◌∷◌, ◌++◌, map, Bool, true, false, ◌||◌, if◌then◌else◌, Option, Some, None, IsTrue, is_some, refl, sym, ap, subst, ◌∙◌, true≢false}
use Rattle.std.specs.List.{flat_map, list_any}
use Rattle.std.proofs.lemmas.Bool.{and_from}
use Rattle.std.proofs.lemmas.List.Folds.{list_any-append}
use Rattle.gil_values.specs.Pure.{PureValue}
use Rattle.mem_model.specs.declared.keys.MemoryName.{MemoryName}
use Rattle.mem_model.specs.Actions.{ActionResult}
use Rattle.pure_terms.specs.Meaning.{value, truth, all_true}
use Rattle.pure_terms.specs.Pure.{PureTerm, literal, variable, list_of, unary_of, binary_of, PureAtom, opening}
use Rattle.sym_chunks.specs.Cases.{ChunkBranches, PureCase, case_of, branches_of, case_branches, sure_case, choose_by, choose}
use Rattle.sym_chunks.specs.Forms.{form_of}
use Rattle.sym_chunks.specs.Laws.{CasesAreChosen}
use Rattle.sym_model.specs.Alternatives.{Alternatives, Hold, never, always, both, any, is_empty, settled, with_form}
use Rattle.sym_model.proofs.Combined.{settled_parts, settled_from, both_from, both_parts}
use Rattle.sym_model.specs.Chunks.{StandFor}
use Rattle.sym_model.specs.Lists.{Each, OneOf, IsAmong}
use Rattle.sym_model.specs.Meaning.{IsOutcome, is_open, has_open, IsBranchFor}
use Rattle.sym_model.specs.Pure.{PureChunk, PureResult, PureBranch}
use Rattle.sym_model.proofs.ListLaws.{same_some, not_none, each_map, each_to, each_append, one_map, one_to, one_flat, one_with, each_is_among}

abbrev pub Branch : Type 0
Branch = PureBranch (List PureChunk)

abbrev branch : List PureChunk → PureResult → List PureAtom → Branch
branch cs res conds = record { conds = conds; state = cs; result = res }

pub each_one : {A : Type 0} (P : A → Type 0) (xs : List A) → Each (λ x. P x → OneOf P xs) xs
each_one P [] = tt
each_one P (x ∷ xs) = (inl, each_to (λ y. P y → OneOf P xs) (λ y. P y → OneOf P (x ∷ xs)) xs (λ y f holds. inr (f holds)) (each_one P xs))

pub each_every : {A : Type 0} (P : A → Type 0) → ((x : A) → P x) → (xs : List A) → Each P xs
each_every P every [] = tt
each_every P every (x ∷ xs) = (every x, each_every P every xs)

-- ---- the branches of one case

module _ (v : List PureValue) where
  abbrev pub IsTaken : Branch → Type 0
  IsTaken b = IsTrue (all_true v b.conds)

  -- where the conditions are true, P of the branch
  pub where_taken : (P : Branch → Type 0) (when : Alternatives) (cs : List PureChunk) (res : PureResult) → (Hold v when → (conds : List PureAtom) → P (branch cs res conds)) → Each (λ b. IsTaken b → P b) (branches_of when cs res)
  where_taken P when cs res is =
      each_map (λ b. IsTaken b → P b) (branch cs res) (settled when)
      (each_to (λ conds. IsTrue (all_true v conds) → Hold v (settled when)) (λ conds. IsTrue (all_true v conds) → P (branch cs res conds)) (settled when)
      (λ conds holds taken. is (settled_parts v when (holds taken)) conds)
      (each_one (λ conds. IsTrue (all_true v conds)) (settled when)))

  pub taken_case : (when : Alternatives) (cs : List PureChunk) (res : PureResult) → Hold v when → OneOf IsTaken (branches_of when cs res)
  taken_case when cs res holds = one_map IsTaken (branch cs res) (settled when) (settled_from v when holds)

  -- ---- the branches that are chosen

  pub sure_true : (x : Alternatives) → list_any is_empty x ≡ true → Hold v x
  sure_true [] sure = absurd (true≢false (sym sure))
  sure_true ([] ∷ x) sure = inl refl
  sure_true ((a ∷ conds) ∷ x) sure = inr (sure_true x sure)

  sure_parts : (b : Bool) (c : PureCase) (cases : List PureCase) (d : PureCase) → list_any is_empty c.when ≡ b → (if b then Some c else sure_case cases) ≡ Some d → ((list_any is_empty c.when ≡ true) × (c ≡ d)) ⊎ (sure_case cases ≡ Some d)
  sure_parts true c cases d sure is = inl (sure, same_some is)
  sure_parts false c cases d sure is = inr is

  -- a case that surely comes is one of the cases
  pub sure_one : (P : PureCase → Type 0) (cases : List PureCase) (d : PureCase) → sure_case cases ≡ Some d → Each (λ c. list_any is_empty c.when ≡ true → P c) cases → P d
  sure_one P [] d is each = not_none is
  sure_one P (c ∷ cases) d is each = ⊎_elim (λ (sure, e). subst P e (each.0 sure)) (λ later. sure_one P cases d later each.1) (sure_parts (list_any is_empty c.when) c cases d refl is)

  -- what holds of each case that comes where `when` holds, holds of the branches that are taken
  module _ (P : Branch → Type 0) (when : Alternatives) (cases : List PureCase) (is : Hold v when → Each (λ c. Hold v c.when → (conds : List PureAtom) → P (branch c.after c.result conds)) cases) where
    each_case : (ds : List PureCase) → (Hold v when → Each (λ c. Hold v c.when → (conds : List PureAtom) → P (branch c.after c.result conds)) ds) → Each (λ b. IsTaken b → P b) (flat_map (case_branches when) ds)
    each_case [] of_each = tt
    each_case (c ∷ ds) of_each =
        each_append (λ b. IsTaken b → P b) (case_branches when c) (flat_map (case_branches when) ds)
        (where_taken P (both when c.when) c.after c.result (λ holds conds. let parts = both_parts v when c.when holds in (of_each parts.0).0 parts.1 conds))
        (each_case ds (λ holds. (of_each holds).1))

    by_sure : (o : Option PureCase) → sure_case cases ≡ o → Each (λ b. IsTaken b → P b) (choose_by when cases o)
    by_sure None sure = each_case cases is
    by_sure (Some c) sure =
        where_taken P when c.after c.result (λ holds conds. sure_one (λ d. P (branch d.after d.result conds)) cases c sure (each_to (λ d. Hold v d.when → (conds : List PureAtom) → P (branch d.after d.result conds)) (λ d. list_any is_empty d.when ≡ true → P (branch d.after d.result conds)) cases (λ d f is_sure. f (sure_true d.when is_sure) conds) (is holds)))

    pub chosen : Each (λ b. IsTaken b → P b) (choose when cases)
    chosen = by_sure (sure_case cases) refl

  taken_one : (when : Alternatives) (ds : List PureCase) → Hold v when → OneOf (λ c. Hold v c.when) ds → OneOf (λ c. OneOf IsTaken (case_branches when c)) ds
  taken_one when ds holds one = one_to (λ c. Hold v c.when) (λ c. OneOf IsTaken (case_branches when c)) ds (λ c comes. taken_case (both when c.when) c.after c.result (both_from v when c.when holds comes)) one

  taken_by : (when : Alternatives) (cases : List PureCase) → Hold v when → OneOf (λ c. Hold v c.when) cases → (o : Option PureCase) → OneOf IsTaken (choose_by when cases o)
  taken_by when cases holds one None = one_flat IsTaken (case_branches when) cases (taken_one when cases holds one)
  taken_by when cases holds one (Some c) = taken_case when c.after c.result holds

  pub chosen_taken : (when : Alternatives) (cases : List PureCase) → Hold v when → OneOf (λ c. Hold v c.when) cases → OneOf IsTaken (choose when cases)
  chosen_taken when cases holds one = taken_by when cases holds one (sure_case cases)

abbrev IsCaseOf : List PureValue → Branch → PureCase → Type 0
IsCaseOf v b c = Hold v c.when × ((b.state ≡ c.after) × (b.result ≡ c.result))

pub chosen_cases : CasesAreChosen
chosen_cases = record {
  exact = λ v when cases.
      chosen v (λ b. Hold v when × OneOf (IsCaseOf v b) cases) when cases
      (λ holds. each_to (λ c. IsAmong c cases) (λ c. Hold v c.when → (conds : List PureAtom) → Hold v when × OneOf (IsCaseOf v (branch c.after c.result conds)) cases) cases
      (λ c among comes conds. (holds, one_to (λ d. d ≡ c) (IsCaseOf v (branch c.after c.result conds)) cases (λ d e. (subst (λ x. Hold v x.when) (sym e) comes, (ap (λ (x : PureCase). x.after) (sym e), ap (λ (x : PureCase). x.result) (sym e)))) among))
      (each_is_among cases));
  cover = λ v when cases holds one. chosen_taken v when cases holds one;
}

-- what comes after a case that surely comes
sure_first : (b : Bool) (c : PureCase) (more : Option PureCase) (rest : Bool) (longer : Option PureCase) → (b || rest) ≡ true → (rest ≡ true → (d : PureCase) × ((more ≡ Some d) × (longer ≡ Some d)))
    → (d : PureCase) × (((if b then Some c else more) ≡ Some d) × ((if b then Some c else longer) ≡ Some d))
sure_first true c more rest longer is later = (c, (refl, refl))
sure_first false c more rest longer is later = later is

sure_append : (xs ys : List PureCase) → list_any (λ (c : PureCase). list_any is_empty c.when) xs ≡ true → (d : PureCase) × ((sure_case xs ≡ Some d) × (sure_case (xs ++ ys) ≡ Some d))
sure_append [] ys is = absurd (true≢false (sym is))
sure_append (c ∷ xs) ys is = sure_first (list_any is_empty c.when) c (sure_case xs) (list_any (λ (d : PureCase). list_any is_empty d.when) xs) (sure_case (xs ++ ys)) is (sure_append xs ys)

pub choose_sure : (when : Alternatives) (xs ys : List PureCase) → list_any (λ (c : PureCase). list_any is_empty c.when) xs ≡ true → choose when (xs ++ ys) ≡ choose when xs
choose_sure when xs ys is =
    let (d, (first, second)) = sure_append xs ys is in
    ap (choose_by when (xs ++ ys)) second ∙ sym (ap (choose_by when xs) first)

-- where no alternative is left there is no branch
pub none_chosen : (P : Branch → Type 0) (cases : List PureCase) → Each P (choose never cases)
none_chosen P cases = by (sure_case cases)
  where
    none : (ds : List PureCase) → Each P (flat_map (case_branches never) ds)
    none [] = tt
    none (c ∷ ds) = none ds

    by : (o : Option PureCase) → Each P (choose_by never cases o)
    by (Some c) = tt
    by None = none cases

-- ---- alternatives that need a form

-- each alternative has an `Open`
abbrev pub AreOpen : Alternatives → Type 0
AreOpen x = Each (λ conds. has_open conds ≡ true) x

module _ (v : List PureValue) where
  or_open : (b c : Bool) → b ≡ true → (b || c) ≡ true
  or_open true c is = refl
  or_open false c is = absurd (true≢false (sym is))

  or_later : (b c : Bool) → c ≡ true → (b || c) ≡ true
  or_later true c is = refl
  or_later false c is = is

  pub form_open : (t : PureTerm) (x : Alternatives) → AreOpen (with_form t x)
  form_open t [] = tt
  form_open t (conds ∷ x) = (refl, form_open t x)

  pub needed_open : (t : PureTerm) (x : Alternatives) → AreOpen (form_of t x)
  needed_open (list_of ts) x = tt
  needed_open (literal k) x = tt
  needed_open (variable y) x = form_open (variable y) x
  needed_open (unary_of op t) x = form_open (unary_of op t) x
  needed_open (binary_of op s t) x = form_open (binary_of op s t) x

  -- a form is asked of a term that has a value
  pub form_holds : (t : PureTerm) (w : PureValue) (x : Alternatives) → value v t ≡ Some w → Hold v x → Hold v (with_form t x)
  form_holds t w x is holds =
      one_map (λ conds. IsTrue (all_true v conds)) (λ conds. opening t ∷ conds) x
      (one_to (λ conds. IsTrue (all_true v conds)) (λ conds. IsTrue (all_true v (opening t ∷ conds))) x (λ conds all. and_from (truth v (opening t)) (all_true v conds) (ap is_some is) all) holds)

  before_open : (a : List PureAtom) (y : Alternatives) → has_open a ≡ true → AreOpen (map (λ b. a ++ b) y)
  before_open a [] opens = tt
  before_open a (b ∷ y) opens = (list_any-append is_open a b ∙ or_open (has_open a) (has_open b) opens, before_open a y opens)

  after_open : (a : List PureAtom) (y : Alternatives) → AreOpen y → AreOpen (map (λ b. a ++ b) y)
  after_open a [] opens = tt
  after_open a (b ∷ y) opens = (list_any-append is_open a b ∙ or_later (has_open a) (has_open b) opens.0, after_open a y opens.1)

  pub both_open : (x y : Alternatives) → AreOpen x → AreOpen (both x y)
  both_open [] y opens = tt
  both_open (a ∷ x) y opens = each_append (λ conds. has_open conds ≡ true) (map (λ b. a ++ b) y) (both x y) (before_open a y opens.0) (both_open x y opens.1)

  pub both_open_later : (x y : Alternatives) → AreOpen y → AreOpen (both x y)
  both_open_later [] y opens = tt
  both_open_later (a ∷ x) y opens = each_append (λ conds. has_open conds ≡ true) (map (λ b. a ++ b) y) (both x y) (after_open a y opens) (both_open_later x y opens)

  pub any_open : {A : Type 0} (f : A → Alternatives) (es : List A) → ((e : A) → AreOpen (f e)) → AreOpen (any f es)
  any_open f [] opens = tt
  any_open f (e ∷ es) opens = each_append (λ conds. has_open conds ≡ true) (f e) (any f es) (opens e) (any_open f es opens)

  not_sure : (x : Alternatives) → AreOpen x → list_any is_empty x ≡ true → ⊥
  not_sure [] opens sure = true≢false (sym sure)
  not_sure ([] ∷ x) opens sure = true≢false (sym opens.0)
  not_sure ((a ∷ conds) ∷ x) opens sure = not_sure x opens.1 sure

  settled_open : (b : Bool) (x : Alternatives) → list_any is_empty x ≡ b → AreOpen x → AreOpen (if b then always else x)
  settled_open true x sure opens = absurd (not_sure x opens sure)
  settled_open false x sure opens = opens

-- ---- exactness and cover

module _ (memory : MemoryName) (v : List PureValue) (r : ActionResult) where
  -- the chunks and the result stand for what the action comes to
  abbrev pub IsFor : List PureChunk → PureResult → Type 0
  IsFor cs res = IsOutcome v res r.outcome × StandFor memory cs v r.heap

  abbrev pub Exact : Branch → Type 0
  Exact b = IsTrue (all_true v b.conds) → has_open b.conds ≡ false → IsBranchFor (StandFor memory) v r b

  pub exact_cases : (when : Alternatives) (cs : List PureChunk) (res : PureResult) → (Hold v when → IsFor cs res) → Each Exact (branches_of when cs res)
  exact_cases when cs res is = where_taken v (λ b. has_open b.conds ≡ false → IsBranchFor (StandFor memory) v r b) when cs res (λ holds conds no_open. let both = is holds in record { result = both.0; state = both.1 })

  pub open_cases : (when : Alternatives) (cs : List PureChunk) (res : PureResult) → AreOpen when → Each Exact (branches_of when cs res)
  open_cases when cs res opens =
      each_map Exact (branch cs res) (settled when)
      (each_to (λ conds. has_open conds ≡ true) (λ conds. Exact (branch cs res conds)) (settled when)
      (λ conds is all no_open. absurd (true≢false (sym is ∙ no_open)))
      (settled_open v (list_any is_empty when) when refl opens))

  -- the case needs a literal form, or it stands for what the action comes to
  abbrev pub IsExactCase : PureCase → Type 0
  IsExactCase c = AreOpen c.when ⊎ (Hold v c.when → IsFor c.after c.result)

  exact_case : (when : Alternatives) (c : PureCase) → (Hold v when → IsExactCase c) → Each Exact (case_branches when c)
  exact_case when c is =
      each_map Exact (branch c.after c.result) (settled (both when c.when))
      (each_to (λ conds. IsAmong conds (settled (both when c.when))) (λ conds. Exact (branch c.after c.result conds)) (settled (both when c.when))
      (λ conds among taken no_open.
      let parts = both_parts v when c.when (settled_parts v (both when c.when) (one_to (λ y. y ≡ conds) (λ y. IsTrue (all_true v y)) (settled (both when c.when)) (λ y e. subst (λ z. IsTrue (all_true v z)) (sym e) taken) among)) in
      let for = by_exact conds among no_open (is parts.0) parts.1 in
      record { result = for.0; state = for.1 })
      (each_is_among (settled (both when c.when))))
    where
      by_exact : (conds : List PureAtom) → IsAmong conds (settled (both when c.when)) → has_open conds ≡ false → IsExactCase c → Hold v c.when → IsFor c.after c.result
      by_exact conds among no_open exact comes =
          ⊎_elim
          (λ opens. absurd (true≢false (sym (one_with (λ y. has_open y ≡ true) (λ y. y ≡ conds) (settled (both when c.when)) (settled_open v (list_any is_empty (both when c.when)) (both when c.when) refl (both_open_later v when c.when opens)) among (λ y o e. subst (λ z. has_open z ≡ true) e o)) ∙ no_open)))
          (λ for. for comes)
          exact

  module _ (when : Alternatives) (cases : List PureCase) (is : Hold v when → Each IsExactCase cases) where
    each_exact : (ds : List PureCase) → (Hold v when → Each IsExactCase ds) → Each Exact (flat_map (case_branches when) ds)
    each_exact [] of_each = tt
    each_exact (c ∷ ds) of_each = each_append Exact (case_branches when c) (flat_map (case_branches when) ds) (exact_case when c (λ holds. (of_each holds).0)) (each_exact ds (λ holds. (of_each holds).1))

    exact_by : (o : Option PureCase) → sure_case cases ≡ o → Each Exact (choose_by when cases o)
    exact_by None sure = each_exact cases is
    exact_by (Some c) sure =
        exact_cases when c.after c.result (λ holds. sure_one v (λ d. IsFor d.after d.result) cases c sure
        (each_to IsExactCase (λ d. list_any is_empty d.when ≡ true → IsFor d.after d.result) cases
        (λ d exact is_sure. ⊎_elim (λ opens. absurd (not_sure v d.when opens is_sure)) (λ for. for (sure_true v d.when is_sure)) exact) (is holds)))

    pub chosen_exact : Each Exact (choose when cases)
    chosen_exact = exact_by (sure_case cases) refl

  -- a case that is made where there is an alternative
  pub made_exact : (when : Alternatives) (cs : List PureChunk) (res : PureResult) → (AreOpen when ⊎ (Hold v when → IsFor cs res)) → Each IsExactCase (case_of when cs res)
  made_exact [] cs res is = tt
  made_exact (conds ∷ x) cs res is = (is, tt)

  -- cover follows from exactness, where some branch has only true conditions
  pub covered : (bs : List Branch) → Each Exact bs → OneOf (IsTaken v) bs → OneOf (λ b. IsTrue (all_true v b.conds) × (IsTrue (has_open b.conds) ⊎ IsBranchFor (StandFor memory) v r b)) bs
  covered [] exact taken = absurd taken
  covered (b ∷ bs) exact taken = ⊎_elim (λ here. inl (here, by_open (has_open b.conds) refl (exact.0 here))) (λ later. inr (covered bs exact.1 later)) taken
    where
      by_open : (opens : Bool) → has_open b.conds ≡ opens → (has_open b.conds ≡ false → IsBranchFor (StandFor memory) v r b) → IsTrue (has_open b.conds) ⊎ IsBranchFor (StandFor memory) v r b
      by_open true is for = inl is
      by_open false is for = inr (for is)

-- each branch is right, and one is taken
pub record IsRight (memory : MemoryName) (v : List PureValue) (r : ActionResult) (bs : ChunkBranches) : Type 0 where
  pub exact : Each (Exact memory v r) bs
  pub taken : OneOf (IsTaken v) bs

-- a case that is made comes where its alternatives hold
pub made_comes : (v : List PureValue) (when : Alternatives) (cs : List PureChunk) (res : PureResult) → Hold v when → OneOf (λ c. Hold v c.when) (case_of when cs res)
made_comes v [] cs res holds = absurd holds
made_comes v (conds ∷ x) cs res holds = inl holds
