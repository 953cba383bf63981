-- Where something is asked over a memory that keeps the law of narrow memories, some command on the way isn't of narrow form.
use Rattle.std.proofs.Common.{◌≡◌, ◌⊎◌, inl, inr, ℕ, ◌+◌, ℤ, List, [], ◌∷◌, length, Bool, true, false, Option, IfSome, IsSome, refl}
use Rattle.std.specs.Option.{option_map, option_or}
use Rattle.gil_values.specs.Pure.{PureValue}
use Rattle.gil_syntax.specs.Pure.{PureProc, PureParts}
use Rattle.gil_syntax.specs.Simple.{is_narrow_command}
use Rattle.mem_model.specs.declared.keys.MemoryName.{MemoryName}
use Rattle.mem_model.specs.Actions.{Actions}
use Rattle.mem_model.specs.Heaps.{Heap}
use Rattle.pure_terms.specs.declared.queries.Query.{Query}
use Rattle.pure_terms.specs.Pure.{PureTerm}
use Rattle.pure_terms.specs.View.{atoms_view}
use Rattle.sym_step.specs.Exploring.{IsEndedFrom}
use Rattle.sym_step.specs.Narrow.{IsAtNarrow, IsNarrowEndedFrom}
use Rattle.sym_step.specs.Trails.{IsTrail}
use Rattle.sym_model.specs.Lists.{Each}
use Rattle.sym_model.specs.Terms.{StateTerms}
use Rattle.sym_model.proofs.ListLaws.{each_to}
use Rattle.sym_paths.specs.Pure.{PurePath}
use Rattle.bi_beginnings.specs.Beginnings.{PureBeginning, BeginsExactly}
use Rattle.bi_beginnings.specs.Narrowly.{IsNarrowBeginning, IsLarger}
use Rattle.bi_beginnings.specs.Opening.{IsAskedThere}
use Rattle.bi_specifications.specs.Specified.{PureEntry, IsExplored}
use Rattle.biabduce.specs.Asked.{ComesOf, Adds, IsWay, earlier_of, MeetsOther, IsOtherBegun, last_way, earlier_way, IsOtherAsked, AsksOthers}
use Rattle.biabduce.specs.Narrowly.{numbers_at, IsNarrowLeft, IsNarrowAlong, BeginsNarrowly}
use Rattle.biabduce.specs.Sound.{PureAsked, PureInference}
use Rattle.biabduce.specs.View.{asked_view}
use Rattle.biabduce.proofs.Asking.{all_added, all_more, all_any, none_asks, each_asks}
use Rattle.biabduce.proofs.NarrowPaths.{larger_left}

module _ {S : Type 0} (p : PureParts) (memory : MemoryName) (m : Actions) (stands : S → List PureValue → Heap → Type 0) (terms : S → StateTerms)
    (asked : List ℕ → List PureTerm → List PureTerm × List PureTerm) (depends : S → List ℕ → List PureTerm → List PureValue → Heap → PureTerm → Type 0) (plain : S → ℤ → ℤ → Type 0) (keeps_plain : Type 0)
    (kept : S → Type 0) (q : PureProc) (n : ℕ) where
  abbrev Others : PureInference → Type 0
  Others = AsksOthers p memory m stands terms asked depends plain keeps_plain kept q n

  abbrev OtherBegun : PureBeginning → Type 0
  OtherBegun = IsOtherBegun p memory m stands terms asked depends plain keeps_plain kept q n

  abbrev NarrowOrOther : PureBeginning → Type 0
  NarrowOrOther b = IsNarrowLeft q n b ⊎ OtherBegun b

  abbrev OtherAsked : PureAsked → Type 0
  OtherAsked = IsOtherAsked p memory m stands terms asked depends plain keeps_plain kept q n

  abbrev Meets : List (PurePath S) → Type 0
  Meets = MeetsOther p memory m stands terms asked depends plain keeps_plain kept q n

  -- ---- the commands of a trail

  on_trail : (start path : PurePath S) (earlier : List (PurePath S)) → IsTrail p m stands terms asked start earlier path → Each (IsAtNarrow p) earlier ⊎ Meets earlier
  on_trail start path [] trail = inl tt
  on_trail start path (before ∷ earlier) (next, trail) = by (is_narrow_command next.at_command.0.command) refl (on_trail start before earlier trail)
    where
      by : (b : Bool) → is_narrow_command next.at_command.0.command ≡ b → Each (IsAtNarrow p) earlier ⊎ Meets earlier → Each (IsAtNarrow p) (before ∷ earlier) ⊎ Meets (before ∷ earlier)
      by false is later = inr (inl (next.at_command.0, (next.at_command.1, is)))
      by true is (inl all) = inl ((next.at_command.0, (next.at_command.1, is)), all)
      by true is (inr other) = inr (inr other)

  abbrev pub as_ended : (start path : PurePath S) → IsNarrowEndedFrom p m stands terms asked depends plain keeps_plain n start path → IsEndedFrom p m stands terms asked depends plain keeps_plain n start path
  as_ended start path (inl (come, some)) = inl (come.from, some)
  as_ended start path (inr (before, (come, goes, steps, is))) = inr (before, (come.from, goes, steps, is))

  pub narrow_or_other : (start path : PurePath S) (ended : IsNarrowEndedFrom p m stands terms asked depends plain keeps_plain n start path)
      → IsNarrowAlong p m stands terms asked depends plain keeps_plain n start path ended
      ⊎ Meets (earlier_of p memory m stands terms asked depends plain keeps_plain kept q n start path (as_ended start path ended))
  narrow_or_other start path (inl (come, some)) = on_trail start path come.from.earlier come.from.trail
  narrow_or_other start path (inr (before, (come, goes, steps, is))) = on_trail start before come.from.earlier come.from.trail

  -- ---- what a path adds

  module _ (e : PureEntry) (path : PurePath S) (explored : IsExplored memory m stands terms asked depends plain keeps_plain kept q e path p n) where
    abbrev IsOtherway : Type 0
    IsOtherway = Meets (earlier_of p memory m stands terms asked depends plain keeps_plain kept q n explored.start path explored.ended)
        ⊎ ((a : PureBeginning) × (BeginsExactly stands a explored.start × OtherBegun a))

    abbrev way : path.drawn ≡ [] → IsWay p memory m stands terms asked depends plain keeps_plain kept q n path
    way no_draw = record { entry = e; explored = explored; no_draw = no_draw }

    pub begun_other : IsOtherway → (b : PureBeginning) → ComesOf path b → OtherBegun b
    begun_other (inl meets) b comes = last_way path (way comes.no_draw) comes meets
    begun_other (inr (a, (exact, other))) b comes = earlier_way path (way comes.no_draw) comes exact other

    pub added_others : (i j : PureInference) → Adds p q path i j → IsOtherway → Others i → Others j
    added_others i j adds other before =
        all_added NarrowOrOther OtherAsked p q path i j adds (λ b comes. inr (begun_other other b comes))
        (λ x asks. inl (record { path = path; way = way asks.no_draw; asks = asks; other = other })) before

  pub larger_others : (b : PureBeginning) → IsNarrowLeft q n b → (i j : PureInference) → BeginsNarrowly (numbers_at (length b.uses + 1)) n b i j → Others i → Others j
  larger_others b left i j begins before =
      all_more NarrowOrOther OtherAsked i j begins.more begins.left begins.undecided
      (each_to (λ c. IsNarrowBeginning (numbers_at (length b.uses + 1)) c × IsLarger n b c) NarrowOrOther begins.more (λ c is. inl (larger_left q n b left c is)) begins.each) before

  -- a path of a narrow beginning adds narrow ones alone, or some command on its way, or on that of an earlier one, isn't of narrow form
  pub taken_others : (e : PureEntry) (b : PureBeginning) (path : PurePath S) (explored : IsExplored memory m stands terms asked depends plain keeps_plain kept q e path p n) (i j : PureInference)
      → Adds p q path i j → BeginsExactly stands b explored.start
      → (IsNarrowLeft q n b × BeginsNarrowly (numbers_at (length b.uses + 1)) n b i j)
      ⊎ (Meets (earlier_of p memory m stands terms asked depends plain keeps_plain kept q n explored.start path explored.ended) ⊎ OtherBegun b)
      → Others i → Others j
  taken_others e b path explored i j adds exact (inl (left, begins)) before = larger_others b left i j begins before
  taken_others e b path explored i j adds exact (inr (inl meets)) before = added_others e path explored i j adds (inl meets) before
  taken_others e b path explored i j adds exact (inr (inr other)) before = added_others e path explored i j adds (inr (b, (exact, other))) before

  -- ---- what is asked of a beginning

  pub begun_others : (b : PureBeginning) (i j : PureInference) (o : Option Query) → OtherBegun b
      → IfSome o (λ x. IsAskedThere stands terms kept q.params b x.place x.path x.vars (atoms_view x.given) (atoms_view x.query))
      → j ≡ record i { undecided = option_or i.undecided (option_map asked_view o) } → Others i → Others j
  begun_others b i j o other asks is before =
      all_any NarrowOrOther OtherAsked i j o is
      (each_asks (λ x. IsAskedThere stands terms kept q.params b x.place x.path x.vars (atoms_view x.given) (atoms_view x.query)) (λ x. OtherAsked (asked_view x)) o
      (λ x there. inr (record { beginning = b; other = other; asks = there })) asks)
      before

  pub undecided_none : (i j : PureInference) (o : Option Query) → ¬ (IsSome o) → j ≡ record i { undecided = option_or i.undecided (option_map asked_view o) } → Others i → Others j
  undecided_none i j o none is before = all_any NarrowOrOther OtherAsked i j o is (none_asks (λ x. OtherAsked (asked_view x)) o none) before
