-- What a path has kept of the one from which it came.
use Rattle.std.proofs.Common.{◌≡◌, inl, inr, ℕ, suc, ◌+◌, ℤ, List, [], ◌∷◌, ◌++◌, length, drop, true, append_assoc, append-nil, refl, sym, ap, subst, ◌∙◌, arith}
use Rattle.std.specs.List.{list_all}
use Rattle.std.proofs.lemmas.Bool.{and_from}
use Rattle.std.proofs.lemmas.List.{drop_at, length-append}
use Rattle.gil_values.specs.Pure.{PureValue}
use Rattle.gil_syntax.specs.Pure.{PureParts}
use Rattle.mem_model.specs.Actions.{Actions}
use Rattle.mem_model.specs.Heaps.{Heap}
use Rattle.pure_terms.specs.declared.variables.Sort.{Sort}
use Rattle.pure_terms.specs.Kinds.{same_sort}
use Rattle.pure_terms.specs.Meaning.{Satisfies}
use Rattle.pure_terms.specs.Pure.{PureTerm, variable, PureAtom}
use Rattle.sym_step.specs.Exploring.{cut_off, IsEndedFrom}
use Rattle.sym_step.specs.Trails.{IsTrail}
use Rattle.sym_step.proofs.Kept.{trails_keep}
use Rattle.sym_model.specs.Terms.{StateTerms}
use Rattle.sym_paths.specs.Meaning.{IsOverTable}
use Rattle.sym_paths.specs.Pure.{PurePath}
use Rattle.sym_paths.specs.Steps.{IsUnknown, drawn_and, drawn_from}

-- Table and conditions are longer, all is over the table, and some valuation meets the conditions.
pub record IsGrown {S : Type 0} (terms : S → StateTerms) (start path : PurePath S) : Type 0 where
  pub more : List Sort
  pub vars : path.vars ≡ start.vars ++ more
  pub later : List PureAtom
  pub conds : path.conds ≡ start.conds ++ later
  pub over : IsOverTable terms path
  pub met : (w : List PureValue) × Satisfies path.vars w path.conds

module _ {S : Type 0} (p : PureParts) (m : Actions) (stands : S → List PureValue → Heap → Type 0) (terms : S → StateTerms)
    (asked : List ℕ → List PureTerm → List PureTerm × List PureTerm) (start : PurePath S) where
  trail_vars : (earlier : List (PurePath S)) (path : PurePath S) → IsTrail p m stands terms asked start earlier path → (more : List Sort) × (path.vars ≡ start.vars ++ more)
  trail_vars [] path trail = ([], ap (λ (x : PurePath S). x.vars) trail ∙ sym (append-nil start.vars))
  trail_vars (before ∷ earlier) path (next, trail) =
      let (more, is) = trail_vars earlier before trail in
      (more ++ next.growth.new_vars, next.growth.vars ∙ ap (λ xs. xs ++ next.growth.new_vars) is ∙ append_assoc start.vars more next.growth.new_vars)

  trail_conds : (earlier : List (PurePath S)) (path : PurePath S) → IsTrail p m stands terms asked start earlier path → (later : List PureAtom) × (path.conds ≡ start.conds ++ later)
  trail_conds [] path trail = ([], ap (λ (x : PurePath S). x.conds) trail ∙ sym (append-nil start.conds))
  trail_conds (before ∷ earlier) path (next, trail) =
      let (later, is) = trail_conds earlier before trail in
      (later ++ next.growth.new_conds, next.growth.conds ∙ ap (λ xs. xs ++ next.growth.new_conds) is ∙ append_assoc start.conds later next.growth.new_conds)

  trail_grown : (earlier : List (PurePath S)) (path : PurePath S) → IsTrail p m stands terms asked start earlier path → IsOverTable terms start
      → (v : List PureValue) × Satisfies start.vars v start.conds → ¬ IsUnknown path.ending → IsGrown terms start path
  trail_grown earlier path trail over (v, met) known =
      let (more, vars) = trail_vars earlier path trail in
      let (later, conds) = trail_conds earlier path trail in
      record {
        more = more;
        vars = vars;
        later = later;
        conds = conds;
        over = (trails_keep p m stands terms asked).over start path earlier trail over;
        met = (trails_keep p m stands terms asked).satisfiable start path earlier v trail met known;
      }

  cut_grown : (last : PurePath S) → IsGrown terms start last → IsGrown terms start (cut_off last)
  cut_grown last grown = record {
    more = grown.more;
    vars = grown.vars;
    later = grown.later;
    conds = grown.conds;
    over = record {
      conds = grown.over.conds;
      given = grown.over.given;
      stores = grown.over.stores;
      memory = grown.over.memory;
      drawn = grown.over.drawn;
      ending = tt;
    };
    met = grown.met;
  }

  module _ (depends : S → List ℕ → List PureTerm → List PureValue → Heap → PureTerm → Type 0) (plain : S → ℤ → ℤ → Type 0) (keeps_plain : Type 0) (n : ℕ) (path : PurePath S) where
    pub ended_grown : IsOverTable terms start → (v : List PureValue) × Satisfies start.vars v start.conds → ¬ IsUnknown path.ending
        → IsEndedFrom p m stands terms asked depends plain keeps_plain n start path → IsGrown terms start path
    ended_grown over met known (inl (from, some)) = trail_grown from.earlier path from.trail over met known
    ended_grown over met known (inr (last, (from, none, steps, is))) =
        subst (IsGrown terms start) (sym is) (cut_grown last (trail_grown from.earlier last from.trail over met (λ unknown. subst IsUnknown none unknown)))

-- ---- draws

drawn_later : (k : ℕ) (xs ys : List Sort) → drawn_from k (xs ++ ys) ≡ drawn_from k xs ++ drawn_from (k + length xs) ys
drawn_later k [] ys = let same : k ≡ k + 0 = omega arith in ap (λ n. drawn_from n ys) same
drawn_later k (x ∷ xs) ys =
    let next : suc k + length xs ≡ k + suc (length xs) = omega arith in
    by x (drawn_later (suc k) xs ys ∙ ap (λ n. drawn_from (suc k) xs ++ drawn_from n ys) next)
  where
    by : (s : Sort) → drawn_from (suc k) (xs ++ ys) ≡ drawn_from (suc k) xs ++ drawn_from (k + suc (length xs)) ys
        → drawn_and k s (drawn_from (suc k) (xs ++ ys)) ≡ drawn_and k s (drawn_from (suc k) xs) ++ drawn_from (k + suc (length xs)) ys
    by Sort.Fresh later = later
    by Sort.Int later = ap (λ ts. variable (record { number = k; sort = Sort.Int }) ∷ ts) later
    by Sort.Bool later = ap (λ ts. variable (record { number = k; sort = Sort.Bool }) ∷ ts) later
    by Sort.Str later = ap (λ ts. variable (record { number = k; sort = Sort.Str }) ∷ ts) later
    by Sort.Sym later = ap (λ ts. variable (record { number = k; sort = Sort.Sym }) ∷ ts) later
    by Sort.List later = ap (λ ts. variable (record { number = k; sort = Sort.List }) ∷ ts) later
    by Sort.Any later = ap (λ ts. variable (record { number = k; sort = Sort.Any }) ∷ ts) later

-- a variable that isn't fresh is a draw
drawn_first : (k : ℕ) (s : Sort) (later : List PureTerm) → drawn_and k s later ≡ [] → (same_sort Sort.Fresh s ≡ true) × (later ≡ [])
drawn_first k Sort.Fresh later none = (refl, none)
drawn_first k Sort.Int later none = absurd (cc)
drawn_first k Sort.Bool later none = absurd (cc)
drawn_first k Sort.Str later none = absurd (cc)
drawn_first k Sort.Sym later none = absurd (cc)
drawn_first k Sort.List later none = absurd (cc)
drawn_first k Sort.Any later none = absurd (cc)

pub all_fresh : (k : ℕ) (sorts : List Sort) → drawn_from k sorts ≡ [] → list_all (same_sort Sort.Fresh) sorts ≡ true
all_fresh k [] none = refl
all_fresh k (s ∷ sorts) none =
    let (here, later) = drawn_first k s (drawn_from (suc k) sorts) none in
    and_from (same_sort Sort.Fresh s) (list_all (same_sort Sort.Fresh) sorts) here (all_fresh (suc k) sorts later)

-- What a path drew that came from one which drew nothing: the new variables that aren't fresh.
pub record Drew {S : Type 0} (start path : PurePath S) : Type 0 where
  pub more : List Sort
  pub vars : path.vars ≡ start.vars ++ more
  pub drawn : path.drawn ≡ drawn_from (length start.vars) more

module _ {S : Type 0} (p : PureParts) (m : Actions) (stands : S → List PureValue → Heap → Type 0) (terms : S → StateTerms)
    (asked : List ℕ → List PureTerm → List PureTerm × List PureTerm) (start : PurePath S) (none : start.drawn ≡ []) where
  trail_drew : (earlier : List (PurePath S)) (path : PurePath S) → IsTrail p m stands terms asked start earlier path → Drew start path
  trail_drew [] path trail = record {
    more = [];
    vars = ap (λ (x : PurePath S). x.vars) trail ∙ sym (append-nil start.vars);
    drawn = ap (λ (x : PurePath S). x.drawn) trail ∙ none;
  }
  trail_drew (before ∷ earlier) path (next, trail) =
      let drew = trail_drew earlier before trail in
      let counted : length before.vars ≡ length start.vars + length drew.more = ap length drew.vars ∙ length-append start.vars drew.more in
      record {
        more = drew.more ++ next.growth.new_vars;
        vars = next.growth.vars ∙ ap (λ xs. xs ++ next.growth.new_vars) drew.vars ∙ append_assoc start.vars drew.more next.growth.new_vars;
        drawn = next.growth.drawn ∙ ap (λ ts. ts ++ drawn_from (length before.vars) next.growth.new_vars) drew.drawn
            ∙ ap (λ k. drawn_from (length start.vars) drew.more ++ drawn_from k next.growth.new_vars) counted
            ∙ sym (drawn_later (length start.vars) drew.more next.growth.new_vars);
      }

  module _ (depends : S → List ℕ → List PureTerm → List PureValue → Heap → PureTerm → Type 0) (plain : S → ℤ → ℤ → Type 0) (keeps_plain : Type 0) (n : ℕ) (path : PurePath S) where
    pub ended_drew : IsEndedFrom p m stands terms asked depends plain keeps_plain n start path → Drew start path
    ended_drew (inl (from, some)) = trail_drew from.earlier path from.trail
    ended_drew (inr (last, (from, going, steps, is))) =
        let drew = trail_drew from.earlier last from.trail in
        record {
          more = drew.more;
          vars = ap (λ (x : PurePath S). x.vars) is ∙ drew.vars;
          drawn = ap (λ (x : PurePath S). x.drawn) is ∙ drew.drawn;
        }

-- so the table is the start's, and behind it what the path has more
pub table_split : (vars first more : List Sort) (count : ℕ) → vars ≡ first ++ more → count ≡ length first → vars ≡ first ++ drop count vars
table_split vars first more count is counted = is ∙ ap (λ xs. first ++ xs) (sym (ap (drop count) is ∙ drop_at first more count (sym counted)))
