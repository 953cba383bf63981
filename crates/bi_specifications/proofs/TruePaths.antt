-- Specifications of ended paths are truly found, where their runs go along the paths.
use Rattle.std.proofs.Common.{◌≡◌, ◌↔◌, ℕ, zero, suc, List, [], ◌∷◌, ◌++◌, drop, slice_get, true, false, Some, IsTrue, refl, sym, ap, subst, ◌∙◌}
use Rattle.std.specs.FinMap.{empty}
use Rattle.std.specs.List.{list_all}
use Rattle.gil_values.specs.declared.places.Place.{Place}
use Rattle.gil_values.specs.Pure.{PureValue}
use Rattle.gil_syntax.specs.Evaluation.{Store}
use Rattle.gil_syntax.specs.Programs.{find_proc}
use Rattle.gil_syntax.specs.Pure.{PureProc, PureSpec, PureParts}
use Rattle.gil_syntax.specs.Valid.{has_twice}
use Rattle.gil_syntax.specs.WellMade.{is_program_name, is_well_made}
use Rattle.gil_machine.specs.Run.{run_of}
use Rattle.gil_machine.specs.State.{End}
use Rattle.gil_machine.specs.State as machine
use Rattle.mem_model.specs.declared.keys.MemoryName.{MemoryName}
use Rattle.mem_model.specs.Actions.{Actions, IsMemory}
use Rattle.mem_model.specs.Heaps.{Heap}
use Rattle.assert_logic.specs.Meets.{Meets, HoldsSomewhere}
use Rattle.assert_logic.proofs.UnionLaws.{union_with_none}
use Rattle.checked_runs.specs.Specifications.{EndsAsTold}
use Rattle.inferred_specs.specs.Inferred.{IsFinish, StartsAlone, IsMetBy, ReturnsWith, ThrowsWith, exact_store}
use Rattle.inferred_specs.specs.Laws.{FinishesAsTold}
use Rattle.inferred_specs.proofs.Alone.{runs_alone_tell}
use Rattle.pure_terms.specs.Meaning.{Satisfies, IsOver}
use Rattle.pure_terms.specs.Pure.{PureTerm, PureAtom}
use Rattle.sym_model.specs.Laws.{IsMeaning}
use Rattle.sym_model.specs.Listing.{IsListing}
use Rattle.sym_model.specs.Pure.{PureUse}
use Rattle.sym_model.specs.Terms.{StateTerms}
use Rattle.sym_model.proofs.ListLaws.{same_some, not_none}
use Rattle.sym_paths.specs.Meaning.{IsOverTable}
use Rattle.sym_paths.specs.Pure.{returned, threw, cut, PurePath}
use Rattle.bi_beginnings.specs.Beginnings.{IsOpening}
use Rattle.bi_specifications.specs.Shape.{post_of, spec_of, MayBeTold}
use Rattle.bi_specifications.specs.Specified.{PureEntry, IsEntryOf, IsTrulyFound}
use Rattle.bi_specifications.proofs.Ends.{post_met, post_only}
use Rattle.bi_specifications.proofs.Inhabited.{is_met}
use Rattle.bi_specifications.proofs.PostStores.{post_store}
use Rattle.bi_specifications.proofs.RunsAlong.{RunsAlong, EachRunsAlong}

only_post : {A : Type 0} (x y : A) (j : ℕ) → slice_get (x ∷ []) j ≡ Some y → x ≡ y
only_post x y zero at = same_some at
only_post x y (suc j) at = not_none at

same_returned : (w u : PureValue) → machine.returned w ≡ machine.returned u → w ≡ u
same_returned w u is = cc

same_threw : (w u : PureValue) (place here : Place) → machine.threw w place ≡ machine.threw u here → w ≡ u
same_threw w u place here is = cc

not_threw : {A : Type 0} (w u : PureValue) (place : Place) → machine.returned w ≡ machine.threw u place → A
not_threw w u place is = cc

not_returned : {A : Type 0} (w u : PureValue) (place : Place) → machine.threw w place ≡ machine.returned u → A
not_returned w u place is = cc

module _ {S : Type 0} (p : PureParts) (memory : MemoryName) (m : Actions) (is_memory : IsMemory memory m) (stands : S → List PureValue → Heap → Type 0) (terms : S → StateTerms)
    (kept : S → Type 0) (meaning : IsMeaning memory stands terms) (q : PureProc) (e : PureEntry) (start path : PurePath S) (n : ℕ)
    (made : IsTrue (is_well_made p)) (told : MayBeTold q e path) (opening : IsOpening stands terms kept q start) (entry : IsEntryOf memory stands q.params start e)
    (split : path.vars ≡ start.vars ++ drop e.count path.vars) (path_over : IsOverTable terms path) (programs : list_all is_program_name q.params ≡ true)
    (distinct : has_twice q.params ≡ false) (found : find_proc p.procs q.name ≡ Some q) (later : List PureAtom) (conds_split : path.conds ≡ start.conds ++ later)
    (v : List PureValue) (met : Satisfies path.vars v path.conds) where
  -- ---- a path that returned

  module _ (t : PureTerm) (t_over : IsOver path.vars t) (us : List PureUse) (listed : IsListing memory stands terms kept path.memory us)
      (each : EachRunsAlong p memory m stands q e start path (returned t) n (post_of q e path us t ∷ []) []) where
    abbrev pub spec : PureSpec
    spec = spec_of q e path (post_of q e path us t ∷ []) []

    module _ (args : List PureValue) (variables : Store) (own : Heap) (counter : ℕ) (inputs : List PureValue) (starts : StartsAlone p memory m spec args variables own counter) where
      abbrev pub along : RunsAlong p memory m stands q e start path (returned t) n (post_of q e path us t ∷ []) [] args variables own counter
      along = each args variables own counter starts

      abbrev pub end : End
      end = run_of p m q.name args own counter inputs n

      abbrev pub result : PureValue
      result = (along.each_run inputs).ends.0

      ends_so : end.ending ≡ machine.returned result
      ends_so = (along.each_run inputs).ends.1.1

      meets_now : Meets (HoldsSomewhere p.preds) (exact_store spec args variables counter result) (post_of q e path us t) end.heap
      meets_now =
          post_met p memory m stands terms kept meaning q e start path (returned t) n (post_of q e path us t ∷ []) [] told entry split path_over programs args variables own counter along
          us listed t t_over result (along.each_run inputs).ends.1.0 end.heap (along.each_run inputs).heap p.preds

      meets_post : IsMetBy p memory m spec spec.posts (exact_store spec args variables counter result) end.heap
      meets_post = record {
        number = zero;
        post = post_of q e path us t;
        is_post = refl;
        meets = meets_now;
      }

      pub finishes_returned : FinishesAsTold p memory m spec args variables end
      finishes_returned = record {
        finishes = record { finish = subst IsFinish (sym ends_so) tt; no_draw = (along.each_run inputs).no_draw };
        as_told = subst (λ en. EndsAsTold p spec args variables empty en end.heap) (sym ends_so) (
          end.heap,
          (
            union_with_none end.heap,
            record {
              number = zero;
              post = post_of q e path us t;
              is_post = refl;
              store = exact_store spec args variables counter result;
              is_store = post_store p memory m stands terms kept meaning q e start path (returned t) n (post_of q e path us t ∷ []) [] told entry split path_over programs args variables own counter along distinct starts.entered result;
              meets = meets_now;
            },
          ),
        );
      }

      only_so : (w : PureValue) (h : Heap) → IsMetBy p memory m spec spec.posts (exact_store spec args variables counter w) h → ReturnsWith p memory m spec end w h
      only_so w h one =
          let (same, heap) =
          post_only p memory m stands terms kept meaning q e start path (returned t) n (post_of q e path us t ∷ []) [] told entry split path_over programs args variables own counter along
          us listed t t_over result (along.each_run inputs).ends.1.0 end.heap (along.each_run inputs).heap p.preds w h
          (subst (λ post. Meets (HoldsSomewhere p.preds) (exact_store spec args variables counter w) post h) (sym (only_post (post_of q e path us t) one.post one.number one.is_post)) one.meets) in
          record { ending = ends_so ∙ ap machine.returned (sym same); heap = sym heap }

      so_meets : (w : PureValue) (h : Heap) → ReturnsWith p memory m spec end w h → IsMetBy p memory m spec spec.posts (exact_store spec args variables counter w) h
      so_meets w h returns =
          let same : result ≡ w = same_returned result w (sym ends_so ∙ returns.ending) in
          subst (λ u. IsMetBy p memory m spec spec.posts (exact_store spec args variables counter u) h) same (subst (IsMetBy p memory m spec spec.posts (exact_store spec args variables counter result)) returns.heap meets_post)

      pub exact_returned : (w : PureValue) (h : Heap) → (IsMetBy p memory m spec spec.posts (exact_store spec args variables counter w) h ↔ ReturnsWith p memory m spec end w h)
          × (IsMetBy p memory m spec spec.errors (exact_store spec args variables counter w) h ↔ ThrowsWith p memory m spec end w h)
      exact_returned w h = (
        (only_so w h, so_meets w h),
        (λ none. not_none none.is_post, λ throws. not_threw result w throws.place (sym ends_so ∙ throws.ending)),
      )

    pub returned_found : IsTrulyFound p memory m q.name n (record { spec = spec; cut = false })
    returned_found = record {
      of_procedure = refl;
      as_marked = (
        runs_alone_tell.hold p memory m spec n made is_memory (λ args variables own counter inputs starts. finishes_returned args variables own counter inputs starts),
        record {
          is_met = is_met p memory m stands terms kept meaning q e start path (post_of q e path us t ∷ []) [] told opening entry split path_over programs distinct found later conds_split v met;
          finishes = runs_alone_tell.finish p memory m spec n made is_memory (λ args variables own counter inputs starts. (finishes_returned args variables own counter inputs starts).finishes);
          exact = λ args variables own counter inputs w h starts. exact_returned args variables own counter inputs starts w h;
        },
      );
    }

  -- ---- a path that threw

  module _ (t : PureTerm) (place : Place) (t_over : IsOver path.vars t) (us : List PureUse) (listed : IsListing memory stands terms kept path.memory us)
      (each : EachRunsAlong p memory m stands q e start path (threw t place) n [] (post_of q e path us t ∷ [])) where
    abbrev pub thrown_spec : PureSpec
    thrown_spec = spec_of q e path [] (post_of q e path us t ∷ [])

    module _ (args : List PureValue) (variables : Store) (own : Heap) (counter : ℕ) (inputs : List PureValue) (starts : StartsAlone p memory m thrown_spec args variables own counter) where
      abbrev pub thrown_along : RunsAlong p memory m stands q e start path (threw t place) n [] (post_of q e path us t ∷ []) args variables own counter
      thrown_along = each args variables own counter starts

      abbrev pub thrown_end : End
      thrown_end = run_of p m q.name args own counter inputs n

      abbrev pub thrown : PureValue
      thrown = (thrown_along.each_run inputs).ends.0

      throws_so : thrown_end.ending ≡ machine.threw thrown place
      throws_so = (thrown_along.each_run inputs).ends.1.1

      error_now : Meets (HoldsSomewhere p.preds) (exact_store thrown_spec args variables counter thrown) (post_of q e path us t) thrown_end.heap
      error_now =
          post_met p memory m stands terms kept meaning q e start path (threw t place) n [] (post_of q e path us t ∷ []) told entry split path_over programs args variables own counter thrown_along
          us listed t t_over thrown (thrown_along.each_run inputs).ends.1.0 thrown_end.heap (thrown_along.each_run inputs).heap p.preds

      meets_error : IsMetBy p memory m thrown_spec thrown_spec.errors (exact_store thrown_spec args variables counter thrown) thrown_end.heap
      meets_error = record {
        number = zero;
        post = post_of q e path us t;
        is_post = refl;
        meets = error_now;
      }

      pub finishes_thrown : FinishesAsTold p memory m thrown_spec args variables thrown_end
      finishes_thrown = record {
        finishes = record { finish = subst IsFinish (sym throws_so) tt; no_draw = (thrown_along.each_run inputs).no_draw };
        as_told = subst (λ en. EndsAsTold p thrown_spec args variables empty en thrown_end.heap) (sym throws_so) (
          thrown_end.heap,
          (
            union_with_none thrown_end.heap,
            record {
              number = zero;
              post = post_of q e path us t;
              is_post = refl;
              store = exact_store thrown_spec args variables counter thrown;
              is_store = post_store p memory m stands terms kept meaning q e start path (threw t place) n [] (post_of q e path us t ∷ []) told entry split path_over programs args variables own counter thrown_along distinct starts.entered thrown;
              meets = error_now;
            },
          ),
        );
      }

      only_thrown : (w : PureValue) (h : Heap) → IsMetBy p memory m thrown_spec thrown_spec.errors (exact_store thrown_spec args variables counter w) h → ThrowsWith p memory m thrown_spec thrown_end w h
      only_thrown w h one =
          let (same, heap) =
          post_only p memory m stands terms kept meaning q e start path (threw t place) n [] (post_of q e path us t ∷ []) told entry split path_over programs args variables own counter thrown_along
          us listed t t_over thrown (thrown_along.each_run inputs).ends.1.0 thrown_end.heap (thrown_along.each_run inputs).heap p.preds w h
          (subst (λ post. Meets (HoldsSomewhere p.preds) (exact_store thrown_spec args variables counter w) post h) (sym (only_post (post_of q e path us t) one.post one.number one.is_post)) one.meets) in
          record { place = place; ending = throws_so ∙ ap (λ u. machine.threw u place) (sym same); heap = sym heap }

      thrown_meets : (w : PureValue) (h : Heap) → ThrowsWith p memory m thrown_spec thrown_end w h → IsMetBy p memory m thrown_spec thrown_spec.errors (exact_store thrown_spec args variables counter w) h
      thrown_meets w h throws =
          let same : thrown ≡ w = same_threw thrown w place throws.place (sym throws_so ∙ throws.ending) in
          subst (λ u. IsMetBy p memory m thrown_spec thrown_spec.errors (exact_store thrown_spec args variables counter u) h) same
          (subst (IsMetBy p memory m thrown_spec thrown_spec.errors (exact_store thrown_spec args variables counter thrown)) throws.heap meets_error)

      pub exact_thrown : (w : PureValue) (h : Heap) → (IsMetBy p memory m thrown_spec thrown_spec.posts (exact_store thrown_spec args variables counter w) h ↔ ReturnsWith p memory m thrown_spec thrown_end w h)
          × (IsMetBy p memory m thrown_spec thrown_spec.errors (exact_store thrown_spec args variables counter w) h ↔ ThrowsWith p memory m thrown_spec thrown_end w h)
      exact_thrown w h = (
        (λ none. not_none none.is_post, λ returns. not_returned thrown w place (sym throws_so ∙ returns.ending)),
        (only_thrown w h, thrown_meets w h),
      )

    pub threw_found : IsTrulyFound p memory m q.name n (record { spec = thrown_spec; cut = false })
    threw_found = record {
      of_procedure = refl;
      as_marked = (
        runs_alone_tell.hold p memory m thrown_spec n made is_memory (λ args variables own counter inputs starts. finishes_thrown args variables own counter inputs starts),
        record {
          is_met = is_met p memory m stands terms kept meaning q e start path [] (post_of q e path us t ∷ []) told opening entry split path_over programs distinct found later conds_split v met;
          finishes = runs_alone_tell.finish p memory m thrown_spec n made is_memory (λ args variables own counter inputs starts. (finishes_thrown args variables own counter inputs starts).finishes);
          exact = λ args variables own counter inputs w h starts. exact_thrown args variables own counter inputs starts w h;
        },
      );
    }

  -- ---- a path that was cut

  pub cut_found : EachRunsAlong p memory m stands q e start path cut n [] [] → IsTrulyFound p memory m q.name n (record { spec = spec_of q e path [] []; cut = true })
  cut_found each = record {
    of_procedure = refl;
    as_marked = record {
      is_met = is_met p memory m stands terms kept meaning q e start path [] [] told opening entry split path_over programs distinct found later conds_split v met;
      cut_off = runs_alone_tell.cut_off p memory m (spec_of q e path [] []) n made is_memory (λ args variables own counter inputs starts.
          let so = (each args variables own counter starts).each_run inputs in
          record { is_cut = so.ends; no_draw = so.no_draw });
    };
  }
