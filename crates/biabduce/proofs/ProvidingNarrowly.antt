-- What is provided for narrow runs as inference goes on.
use Rattle.std.proofs.Common.{◌≡◌, ◌⊎◌, ⊎_elim, inl, inr, ℕ, ◌+◌, ◌≤◌, List, [], ◌∷◌, ◌++◌, length, Option, Some, None, true, false, sym, subst, ◌∙◌}
use Rattle.std.specs.FinMap.{entries}
use Rattle.std.specs.Option.{option_map, option_or}
use Rattle.gil_values.specs.Pure.{PureValue}
use Rattle.gil_syntax.specs.Programs.{find_proc}
use Rattle.gil_syntax.specs.Pure.{PureProc, PureParts}
use Rattle.mem_model.specs.declared.keys.MemoryName.{MemoryName}
use Rattle.mem_model.specs.Actions.{Actions}
use Rattle.mem_model.specs.Heaps.{Heap}
use Rattle.checked_runs.proofs.Parts.{union_parts}
use Rattle.inferred_specs.specs.Inferred.{PureFound}
use Rattle.pure_terms.specs.declared.queries.Query.{Query}
use Rattle.pure_terms.specs.declared.variables.Sort.{Sort}
use Rattle.pure_terms.specs.Pure.{PureAtom}
use Rattle.sym_model.specs.Lists.{Each, OneOf}
use Rattle.sym_model.specs.Terms.{StateTerms}
use Rattle.sym_model.proofs.ListLaws.{same_some, each_to, one_left, one_right, one_parts, one_with}
use Rattle.sym_paths.specs.Pure.{PureEnd, PurePath}
use Rattle.bi_beginnings.specs.Beginnings.{first_beginning, PureBeginning, BeginsWith, CoversBeginning}
use Rattle.bi_beginnings.specs.Narrowly.{IsNarrowBeginning, IsLarger}
use Rattle.biabduce.specs.Covering.{PureRun, IsWanted, IsAwaited, IsCovered}
use Rattle.biabduce.specs.Narrowly.{IsNarrowEntry, numbers_at, IsNarrowLeft}
use Rattle.biabduce.specs.NarrowRuns.{CoversNarrowly, IsNarrowRun, IsAwaitedNarrowly, IsProvidedNarrowly, KeepsNarrowly, CoversNarrowEnd, CoversNarrowStart, CoversNarrowAwaited, CoversNarrowAll}
use Rattle.biabduce.specs.Sound.{PureAsked, PureInference, first_asked}
use Rattle.biabduce.specs.View.{asked_view}
use Rattle.biabduce.proofs.NarrowPaths.{first_left, larger_left}
use Rattle.biabduce.proofs.Providing.{still_covered, first_awaits, part_proper, met_in_whole}

one_of_each : {A : Type 0} (P Q R : A → Type 0) (xs : List A) → ((x : A) → P x → Q x → R x) → Each P xs → OneOf Q xs → OneOf R xs
one_of_each P Q R [] f all one = absurd one
one_of_each P Q R (x ∷ xs) f all one = ⊎_elim (λ here. inl (f x all.0 here)) (λ later. inr (one_of_each P Q R xs f all.1 later)) one

module _ (p : PureParts) (memory : MemoryName) (m : Actions) (q : PureProc) (n : ℕ) where
  abbrev Provided : PureInference → PureRun → Type 0
  Provided = IsProvidedNarrowly p memory m q n

  abbrev Awaited : PureRun → PureBeginning → Type 0
  Awaited = IsAwaitedNarrowly p memory m q n

  -- ---- what becomes of inference

  pub begun_keeps : (i j : PureInference) (more : List PureBeginning) → j ≡ record i { left = i.left ++ more } → KeepsNarrowly p memory m q n i j
  begun_keeps i j more is r provided = subst (λ k. Provided k r) (sym is) (⊎_elim (λ awaited. inl (one_left (Awaited r) i.left more awaited)) inr provided)

  pub found_keeps : (i j : PureInference) (found : PureFound) → j ≡ record i { founds = i.founds ++ found ∷ [] } → KeepsNarrowly p memory m q n i j
  found_keeps i j found is r provided = subst (λ k. Provided k r) (sym is) (⊎_elim inl (λ covered. inr (still_covered p memory m q n i.founds (found ∷ []) r covered)) provided)

  pub left_keeps : (i j : PureInference) (x : PureAsked) → j ≡ record i { undecided = first_asked i.undecided x } → KeepsNarrowly p memory m q n i j
  left_keeps i j x is r provided = subst (λ k. Provided k r) (sym is) provided

  pub any_keeps : (i j : PureInference) (o : Option Query) → j ≡ record i { undecided = option_or i.undecided (option_map asked_view o) } → KeepsNarrowly p memory m q n i j
  any_keeps i j o is r provided = subst (λ k. Provided k r) (sym is) provided

  pub found_provides : (i j : PureInference) (found : PureFound) (r : PureRun) → j ≡ record i { founds = i.founds ++ found ∷ [] } → IsCovered p memory m q n (i.founds ++ found ∷ []) r → Provided j r
  found_provides i j found r is covered = subst (λ k. Provided k r) (sym is) (inr covered)

  -- what is begun besides is narrow, and awaits the run
  pub begun_provides : (b : PureBeginning) (i j : PureInference) (more : List PureBeginning) (r : PureRun) → IsNarrowLeft q n b → j ≡ record i { left = i.left ++ more }
      → Each (λ c. IsNarrowBeginning (numbers_at (length b.uses + 1)) c × IsLarger n b c) more → OneOf (IsAwaited p memory m q n r) more → Provided j r
  begun_provides b i j more r left is all one =
      subst (λ k. Provided k r) (sym is)
      (inl (one_right (Awaited r) i.left more
      (one_of_each (λ c. IsNarrowBeginning (numbers_at (length b.uses + 1)) c × IsLarger n b c) (IsAwaited p memory m q n r) (Awaited r) more (λ c narrow awaits. (awaits, larger_left q n b left c narrow)) all one)))

  -- ---- ends and starts

  pub narrow_end_same : (b : PureBeginning) (vars wars : List Sort) (conds donds : List PureAtom) (o u : Option PureEnd) (i : PureInference) → vars ≡ wars → conds ≡ donds → o ≡ u
      → CoversNarrowEnd p memory m q n b vars conds o i → CoversNarrowEnd p memory m q n b wars donds u i
  narrow_end_same b vars wars conds donds o u i same_vars same_conds same_end covers =
      subst (λ x. CoversNarrowEnd p memory m q n b x donds u i) same_vars
      (subst (λ x. CoversNarrowEnd p memory m q n b vars x u i) same_conds (subst (λ x. CoversNarrowEnd p memory m q n b vars conds x i) same_end covers))

  pub still_started_narrowly : {S : Type 0} (stands : S → List PureValue → Heap → Type 0) (terms : S → StateTerms) (b : PureBeginning) (i j : PureInference) (starts : List (PurePath S)) → KeepsNarrowly p memory m q n i j
      → Each (CoversNarrowStart p memory m q n stands terms b i) starts → Each (CoversNarrowStart p memory m q n stands terms b j) starts
  still_started_narrowly stands terms b i j starts keeps all =
      each_to (CoversNarrowStart p memory m q n stands terms b i) (CoversNarrowStart p memory m q n stands terms b j) starts (λ s covers r wanted narrow a begins. keeps r (covers r wanted narrow a begins)) all

  -- a beginning whose starts are covered, and for which no list was left undecided
  pub begun_covers_narrowly : {S : Type 0} (stands : S → List PureValue → Heap → Type 0) (terms : S → StateTerms) (b : PureBeginning) (U : Type 0) (j : PureInference) (starts : List (PurePath S)) → CoversBeginning memory stands b U starts
      → ¬ U → Each (CoversNarrowStart p memory m q n stands terms b j) starts → CoversNarrowAwaited p memory m q n b j
  begun_covers_narrowly stands terms b U j starts begins decided covers r wanted narrow a =
      ⊎_elim (λ some. absurd (decided some))
      (λ one. one_with (CoversNarrowStart p memory m q n stands terms b j) (BeginsWith stands b.vars a.values a.own) starts covers one (λ s covered begins_there. covered r wanted narrow a begins_there))
      (begins a.values a.own a.meets a.uses (union_parts memory r.heap a.own a.rest a.union wanted.proper.heap).0)

  -- ---- the work list

  pub first_provided_narrowly : (found : find_proc p.procs q.name ≡ Some q) (i : PureInference) → i ≡ record { left = first_beginning q ∷ []; founds = []; undecided = None } → IsNarrowEntry memory q
      → (r : PureRun) → IsWanted p memory m q n r → length (entries r.heap) ≤ n → Provided i r
  first_provided_narrowly found i is entry r wanted few =
      subst (λ k. Provided k r) (sym is) (inl (inl (first_awaits p memory m q n found r wanted few, first_left q n entry.few_params)))

  -- with the last beginning taken out: it awaits the run, or the run is still provided for
  taken_so : (i : PureInference) (rest : List PureBeginning) (b : PureBeginning) (r : PureRun) → i.left ≡ rest ++ b ∷ [] → Provided i r → Awaited r b ⊎ Provided (record i { left = rest }) r
  taken_so i rest b r is provided =
      ⊎_elim (λ awaited. by (one_parts (Awaited r) rest (b ∷ []) (subst (OneOf (Awaited r)) is awaited))) (λ covered. inr (inr covered)) provided
    where
      by : OneOf (Awaited r) rest ⊎ OneOf (Awaited r) (b ∷ []) → Awaited r b ⊎ Provided (record i { left = rest }) r
      by (inl one) = inr (inl one)
      by (inr (inl here)) = inl here
      by (inr (inr none)) = absurd none

  pub followed_narrowly : (i : PureInference) (rest : List PureBeginning) (b : PureBeginning) (j : PureInference) (r : PureRun) → i.left ≡ rest ++ b ∷ [] → KeepsNarrowly p memory m q n (record i { left = rest }) j
      → (IsNarrowLeft q n b → CoversNarrowAwaited p memory m q n b j) → IsWanted p memory m q n r → IsNarrowRun p memory m q n r → Provided i r → Provided j r
  followed_narrowly i rest b j r is keeps covers wanted narrow provided =
      ⊎_elim (λ awaited. covers awaited.1 r wanted narrow awaited.0) (λ still. keeps r still) (taken_so i rest b r is provided)

  pub all_covered_narrowly : (i : PureInference) (r : PureRun) → i.left ≡ [] → Provided i r → IsCovered p memory m q n i.founds r
  all_covered_narrowly i r none provided = ⊎_elim (λ awaited. absurd (subst (OneOf (Awaited r)) none awaited)) (λ covered. covered) provided

  -- ---- the sentence

  pub covers_narrowly_so : find_proc p.procs q.name ≡ Some q → (i : PureInference) → (IsNarrowEntry memory q → CoversNarrowAll p memory m q n i) → CoversNarrowly p memory m q.name n i.founds
  covers_narrowly_so found i all entered there entry args h part counter proper is_part few narrow =
      let same : entered ≡ q = same_some (sym there ∙ found) in
      let covers = all (subst (IsNarrowEntry memory) same entry) in (
        λ finishes part_finishes.
            let r : PureRun = record { args = args; heap = part; counter = counter } in
            met_in_whole p memory m q n i.founds false args part h is_part
            ((covers r (record { proper = part_proper p memory m q n args h part counter proper is_part; ending = inl part_finishes }) narrow few).finished part_finishes),
        λ off part_off.
            let r : PureRun = record { args = args; heap = part; counter = counter } in
            met_in_whole p memory m q n i.founds true args part h is_part
            ((covers r (record { proper = part_proper p memory m q n args h part counter proper is_part; ending = inr part_off }) narrow few).cut_off part_off),
      )
