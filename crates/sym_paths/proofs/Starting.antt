-- The first path stands for the first state.
use Rattle.std.proofs.Common.{◌≡◌, ℕ, ℤ, pos, neg_ℤ, None, List, [], ◌∷◌, length, IsTrue, refl, sym, ap, subst, arith}
use Rattle.std.specs.FinMap.{empty}
use Rattle.gil_values.specs.Pure.{PureValue}
use Rattle.gil_values.specs.Symbols.{AreBelow}
use Rattle.gil_values.proofs.OperatorSymbols.{none_contained}
use Rattle.gil_syntax.specs.Programs.{find_proc}
use Rattle.gil_syntax.specs.Pure.{PureParts}
use Rattle.gil_machine.specs.Run.{start, params_of}
use Rattle.gil_machine.specs.Step.{bind_all}
use Rattle.mem_model.specs.Heaps.{Heap}
use Rattle.pure_terms.specs.declared.variables.Sort.{Sort}
use Rattle.pure_terms.specs.Meaning.{all_true, IsProper}
use Rattle.pure_terms.specs.Pure.{PureTerm}
use Rattle.sym_evaluation.specs.Meaning.{StandsFor}
use Rattle.sym_model.specs.Laws.{IsPlainWithin, IsDecidedWithin}
use Rattle.sym_model.specs.Lists.{Each}
use Rattle.sym_model.proofs.ListLaws.{not_none}
use Rattle.sym_paths.specs.Meaning.{AreFrames, frames_of, Stands, OfEachName, end_terms}
use Rattle.sym_paths.specs.Pure.{entry_frame, PurePath}
use Rattle.sym_paths.specs.Steps.{IsPlainPath}

no_arguments : (xs : List (List ℕ)) → bind_all xs [] ≡ []
no_arguments [] = refl
no_arguments (x ∷ xs) = refl

nothing_stands : StandsFor [] [] []
nothing_stands x = tt

pub first_is_proper : IsProper [] []
first_is_proper = record { one_each = refl; sorts = λ x s w in_table at. not_none at; fresh = λ x y n w in_table at less at_y occurs. not_none at }

pub first_frames : (p : PureParts) (f : List ℕ) → AreFrames [] (entry_frame f ∷ []) (frames_of (start p f [] empty 0))
first_frames p f = (
  record {
    procedure = refl;
    next = refl;
    store = subst (StandsFor [] []) (sym (no_arguments (params_of (find_proc p.procs f)))) nothing_stands;
    waits = refl;
    handler = refl;
  },
  tt,
)

nothing_below : AreBelow 0 []
nothing_below n occurs = absurd (none_contained n occurs)

pub first_stands : {S : Type 0} (stands : S → List PureValue → Heap → Type 0) (path : PurePath S) (p : PureParts) (f : List ℕ) → path.vars ≡ [] → path.conds ≡ []
    → path.stack ≡ entry_frame f ∷ [] → stands path.memory [] empty → path.drawn ≡ [] → Stands stands path [] (start p f [] empty 0)
first_stands stands path p f vars conds stack memory drawn = record {
  proper = subst (λ xs. IsProper xs []) (sym vars) first_is_proper;
  meets = subst (λ atoms. IsTrue (all_true [] atoms)) (sym conds) refl;
  frames = subst (λ fs. AreFrames [] fs (frames_of (start p f [] empty 0))) (sym stack) (first_frames p f);
  memory = memory;
  symbols_below = nothing_below;
  draws = sym (ap (λ (ts : List PureTerm). length ts) drawn);
}

-- it has no numbers
pub first_plain : {S : Type 0} (plain : S → ℤ → ℤ → Type 0) (path : PurePath S) (f : List ℕ) (b : ℕ) → path.vars ≡ [] → path.conds ≡ [] → path.stack ≡ entry_frame f ∷ [] → ((low high : ℤ) → plain path.memory low high)
    → path.ending ≡ None → IsPlainPath plain b path
first_plain plain path f b vars conds stack memory ending = record {
  stores = subst (Each (λ k. OfEachName (IsPlainWithin (neg_ℤ (pos b)) (pos b)) k.store)) (sym stack) ((λ x t is. not_none is), tt);
  memory = λ low high below above. memory low high;
  conds = subst (Each (IsDecidedWithin (neg_ℤ (pos b)) (pos b))) (sym conds) tt;
  ending = subst (λ o. Each (IsPlainWithin (neg_ℤ (pos b)) (pos b)) (end_terms o)) (sym ending) tt;
  few_variables = omega (arith, ap (λ (sorts : List Sort). length sorts) vars);
}
