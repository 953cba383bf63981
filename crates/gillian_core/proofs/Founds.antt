-- Specifications that are found as they are reported.
use Rattle.std.proofs.Common.{◌≡◌, ℕ, List, [], ◌∷◌, ◌++◌, map, Option, Some, None, IfSome, refl, ap, ap₂, sym, ◌∙◌}
use Rattle.std.specs.Option.{option_map}
use Rattle.std.proofs.lemmas.List.{append-nil, map-append}
use Rattle.bi_specifications.specs.declared.specifying.Found.{Found}
use Rattle.bi_specifications.specs.View.{found_view, founds_view}
use Rattle.gil_report.specs.declared.answers.Answer.{Answer}
use Rattle.gil_report.specs.Pure.{PureAnswer, found, undecided}
use Rattle.gil_report.specs.View.{answer_view}
use Rattle.inferred_specs.specs.Inferred.{PureFound, Covers}
use Rattle.gil_syntax.specs.Programs.{find_proc}
use Rattle.gil_syntax.specs.Pure.{PureProc, PureParts}
use Rattle.mem_model.specs.Actions.{MissesWhatLacks}
use Rattle.bi_specifications.specs.Specified.{IsTrulyFound}
use Rattle.biabduce.specs.Decided.{IsDecidable}
use Rattle.biabduce.specs.Narrowly.{IsNarrowlyDecidable}
use Rattle.biabduce.specs.NarrowRuns.{CoversNarrowly}
use Rattle.pure_terms.specs.declared.queries.Query.{Query}
use Rattle.pure_terms.specs.Fragment.{InFragment}
use Rattle.pure_terms.specs.View.{atoms_view}
use Rattle.sym_model.specs.Lists.{Each}
use Rattle.sym_test.specs.View.{PureQuery, query_view}
use Rattle.gillian_core.specs.Answers.{question_of}
use Rattle.gillian_core.specs.Definitions.{Memory}
use Rattle.gillian_core.specs.Inferred.{AreRightFounds, found_answers, question_answers}

abbrev told_by : PureFound → PureAnswer
told_by f = found f.spec f.cut

-- the answers to one specification more
pub one_more_found : (told : List Found) (f : Found) (answers more : List Answer) (a : Answer) → more ≡ answers ++ a ∷ []
    → answer_view a ≡ found (found_view f).spec (found_view f).cut → map answer_view answers ≡ found_answers (founds_view told)
    → map answer_view more ≡ found_answers (founds_view (told ++ f ∷ []))
one_more_found told f answers more a pushed is before =
    ap (map answer_view) pushed ∙ map-append answer_view answers (a ∷ []) ∙ ap₂ (λ (xs : List PureAnswer) (x : PureAnswer). xs ++ x ∷ []) before is
    ∙ sym (ap (map told_by) (map-append found_view told (f ∷ [])) ∙ map-append told_by (map found_view told) (found_view f ∷ []))

-- what isn't decided stands behind the answers
pub one_question : (answers more : List Answer) (a : Answer) (q : Query) → more ≡ answers ++ a ∷ [] → answer_view a ≡ undecided (question_of (query_view q))
    → map answer_view more ≡ map answer_view answers ++ question_answers (Some (query_view q))
one_question answers more a q pushed is =
    ap (map answer_view) pushed ∙ map-append answer_view answers (a ∷ []) ∙ ap (λ (x : PureAnswer). map answer_view answers ++ x ∷ []) is

undecided_query : (o : Option Query) → IfSome o (λ q. ¬ InFragment (atoms_view q.query)) → IfSome (option_map query_view o) (λ q. ¬ InFragment q.query)
undecided_query None is_open = tt
undecided_query (Some q) is_open = is_open

asked_query : (P : PureQuery → Type 0) (o : Option Query) → IfSome o (λ x. P (query_view x)) → IfSome (option_map query_view o) P
asked_query P None all = tt
asked_query P (Some x) one = one

-- what holds of a procedure and a query, if there is one
pub each_asked : (F : PureProc → Type 0) (P : PureProc → Query → Type 0) (o : Option Query) → ((q : PureProc) → F q → IfSome o (P q)) → IfSome o (λ x. (q : PureProc) → F q → P q x)
each_asked F P None all = tt
each_asked F P (Some x) all = all

pub each_asked_too : (F G : PureProc → Type 0) (P : PureProc → Query → Type 0) (o : Option Query) → ((q : PureProc) → F q → G q → IfSome o (P q)) → IfSome o (λ x. (q : PureProc) → F q → G q → P q x)
each_asked_too F G P None all = tt
each_asked_too F G P (Some x) all = all

no_query : (o : Option Query) → option_map query_view o ≡ None → o ≡ None
no_query None none = refl
no_query (Some q) none = absurd (cc)

-- what is found, with what isn't decided, is right
pub right_founds : (m : Memory) (p : PureParts) (f : List ℕ) (n : ℕ) (told : List Found) (o : Option Query)
    (answers : List Answer) (reported : List PureAnswer) → Each (IsTrulyFound p m.name m.actions f n) (founds_view told)
    → IfSome o (λ q. ¬ InFragment (atoms_view q.query)) → IfSome o (λ x. m.LeavesUnsaid p f n (query_view x)) → (m.keeps_narrow → IfSome o (λ x. m.MeetsOthers p f n (query_view x))) → map answer_view answers ≡ found_answers (founds_view told)
    → reported ≡ map answer_view answers ++ question_answers (option_map query_view o) → (o ≡ None → Covers p m.name m.actions f (founds_view told) n)
    → MissesWhatLacks m.name m.actions → (IsDecidable m.keeps_plain p m.name m.actions f → o ≡ None)
    → (m.keeps_narrow → (q : PureProc) → find_proc p.procs f ≡ Some q → IsNarrowlyDecidable p m.name q → o ≡ None)
    → (m.keeps_narrow → CoversNarrowly p m.name m.actions f n (founds_view told)) → AreRightFounds m p f n reported
right_founds m p f n told o answers reported true_ones is_open asked other before is covers own_keys decided narrow narrow_cover = record {
  founds = founds_view told;
  unknown = option_map query_view o;
  in_order = is ∙ ap (λ (xs : List PureAnswer). xs ++ question_answers (option_map query_view o)) before;
  truly_found = true_ones;
  undecided_one = undecided_query o is_open;
  asked = asked_query (m.LeavesUnsaid p f n) o asked;
  other = λ keeps. asked_query (m.MeetsOthers p f n) o (other keeps);
  covers = λ none. covers (no_query o none);
  decided = λ keeps simple entry. ap (option_map query_view) (decided (record { plain = keeps; own_keys = own_keys; simple = simple; entry = entry }));
  narrow = λ keeps q there decidable. ap (option_map query_view) (narrow keeps q there decidable);
  narrow_cover = narrow_cover;
}
