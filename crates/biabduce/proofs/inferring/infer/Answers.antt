use Rattle.std.proofs.Common.{◌≡◌, ◌⊎◌, Some, refl, sym, ap, subst, ◌∙◌}
use Rattle.std.specs.Option.{option_map}
use Rattle.gil_syntax.specs.Program.{prog_view}
use Rattle.gil_machine.proofs.Placed.{found_name}
use Rattle.gil_syntax.specs.Programs.{find_proc}
use Rattle.gil_syntax.specs.View.{proc_view}
use Rattle.sym_model.specs.Lists.{Each}
use Rattle.sym_model.proofs.ListLaws.{same_some}
use Rattle.bi_specifications.specs.Specified.{IsTrulyFound}
use Rattle.bi_specifications.specs.View.{founds_view}
use Rattle.inferred_specs.specs.Inferred.{Covers}
use Rattle.biabduce.specs.Asked.{IsAskedAlong, IsAskedFirst, IsLeftOf, AsksRightly, IsOtherBegun, IsOtherAsked, AsksOthers}
use Rattle.biabduce.specs.Decided.{IsDecidable}
use Rattle.biabduce.specs.Narrowly.{IsNarrowEntry, IsNarrowLeft, IsNarrowlyDecidable}
use Rattle.biabduce.specs.NarrowRuns.{CoversNarrowly}
use Rattle.biabduce.specs.View.{asked_view, inference_view}
use Rattle.biabduce.proofs.Asking.{all_seen}
use Rattle.biabduce.proofs.Coming.{each_of_run, each_other_of_run}
use Rattle.biabduce.proofs.Decided.{nothing_left}
use Rattle.biabduce.proofs.Keeping.{seen_back}
use Rattle.biabduce.proofs.Providing.{none_left, covers_so}
use Rattle.biabduce.proofs.ProvidingNarrowly.{covers_narrowly_so}
use Rattle.biabduce.proofs.inferring.infer.Goals as goal

pub follow_all-requires-clause-found : goal.follow_all-requires-clause-found
follow_all-requires-clause-found g c =
    let p = prog_view c.args.prog.now in
    let q = proc_view c.in-Some.proc.now in
    let there : find_proc p.procs c.args.name.now ≡ Some q = sym c.proc.ensures ∙ ap (option_map (λ r. proc_view r.now)) c.in-Some.is in
    ap (find_proc p.procs) (found_name p.procs c.args.name.now q there) ∙ there

pub returns-clause-found : goal.returns-clause-found
returns-clause-found g c =
    let p = prog_view c.args.prog.now in
    let q = proc_view c.in-Some.proc.now in
    let there : find_proc p.procs c.args.name.now ≡ Some q = sym c.proc.ensures ∙ ap (option_map (λ r. proc_view r.now)) c.in-Some.is in
    subst (λ f. Each (IsTrulyFound p g.M.Local.LocalMemory.memory g.M.Local.LocalMemory.actions f c.args.bound) (founds_view c.in_ok-inference.inference.founds)) (found_name p.procs c.args.name.now q there) c.in_ok-inference.ensures.sound.founds

pub returns-clause-unknown : goal.returns-clause-unknown
returns-clause-unknown g c = seen_back c.in_ok-inference.inference.undecided c.in_ok-inference.ensures.sound.undecided

pub returns-clause-asked : goal.returns-clause-asked
returns-clause-asked g c = λ r found.
    let p = prog_view c.args.prog.now in
    let q = proc_view c.in-Some.proc.now in
    let i = c.in_ok-inference.inference in
    let there : find_proc p.procs c.args.name.now ≡ Some q = sym c.proc.ensures ∙ ap (option_map (λ x. proc_view x.now)) c.in-Some.is in
    let same : q ≡ r = same_some (sym there ∙ found) in
    let rightly = subst (λ u. AsksRightly p g.M.Local.LocalMemory.memory g.M.Local.LocalMemory.actions g.M.SymMemory.stands g.M.SymMemory.terms g.M.SymMemory.asked g.M.SymMemory.depends g.M.SymMemory.plain g.M.SymMemory.keeps_plain g.M.SymMemory.kept u c.args.bound (inference_view i)) same c.in_ok-inference.ensures.asked in
    each_of_run p g.M.Local.LocalMemory.memory g.M.Local.LocalMemory.actions g.M.SymMemory.stands g.M.SymMemory.terms g.met.M.SymMemory.meaning g.M.SymMemory.asked g.M.SymMemory.depends g.M.SymMemory.plain g.M.SymMemory.keeps_plain g.M.SymMemory.kept r c.args.bound i.undecided
    (all_seen (IsLeftOf p g.M.Local.LocalMemory.memory g.M.Local.LocalMemory.actions g.M.SymMemory.stands g.M.SymMemory.terms g.M.SymMemory.asked g.M.SymMemory.depends g.M.SymMemory.plain g.M.SymMemory.keeps_plain g.M.SymMemory.kept r c.args.bound)
    (λ x. IsAskedAlong p g.M.Local.LocalMemory.memory g.M.Local.LocalMemory.actions g.M.SymMemory.stands g.M.SymMemory.terms g.M.SymMemory.asked g.M.SymMemory.depends g.M.SymMemory.plain g.M.SymMemory.keeps_plain g.M.SymMemory.kept r c.args.bound x ⊎ IsAskedFirst p g.M.Local.LocalMemory.memory g.M.Local.LocalMemory.actions g.M.SymMemory.stands g.M.SymMemory.terms g.M.SymMemory.asked g.M.SymMemory.depends g.M.SymMemory.plain g.M.SymMemory.keeps_plain g.M.SymMemory.kept r c.args.bound x) (inference_view i) i.undecided refl rightly)

pub returns-clause-other : goal.returns-clause-other
returns-clause-other g c = λ keep r found entry.
    let p = prog_view c.args.prog.now in
    let q = proc_view c.in-Some.proc.now in
    let i = c.in_ok-inference.inference in
    let there : find_proc p.procs c.args.name.now ≡ Some q = sym c.proc.ensures ∙ ap (option_map (λ x. proc_view x.now)) c.in-Some.is in
    let same : q ≡ r = same_some (sym there ∙ found) in
    let others = subst (λ u. AsksOthers p g.M.Local.LocalMemory.memory g.M.Local.LocalMemory.actions g.M.SymMemory.stands g.M.SymMemory.terms g.M.SymMemory.asked g.M.SymMemory.depends g.M.SymMemory.plain g.M.SymMemory.keeps_plain g.M.SymMemory.kept u c.args.bound (inference_view i)) same
    (c.in_ok-inference.ensures.other keep (subst (IsNarrowEntry g.M.Local.LocalMemory.memory) (sym same) entry))
    in
    each_other_of_run p g.M.Local.LocalMemory.memory g.M.Local.LocalMemory.actions g.M.SymMemory.stands g.M.SymMemory.terms g.met.M.SymMemory.meaning g.M.SymMemory.asked g.M.SymMemory.depends g.M.SymMemory.plain g.M.SymMemory.keeps_plain g.M.SymMemory.kept r c.args.bound i.undecided
    (all_seen (λ b. IsNarrowLeft r c.args.bound b ⊎ IsOtherBegun p g.M.Local.LocalMemory.memory g.M.Local.LocalMemory.actions g.M.SymMemory.stands g.M.SymMemory.terms g.M.SymMemory.asked g.M.SymMemory.depends g.M.SymMemory.plain g.M.SymMemory.keeps_plain g.M.SymMemory.kept r c.args.bound b)
    (IsOtherAsked p g.M.Local.LocalMemory.memory g.M.Local.LocalMemory.actions g.M.SymMemory.stands g.M.SymMemory.terms g.M.SymMemory.asked g.M.SymMemory.depends g.M.SymMemory.plain g.M.SymMemory.keeps_plain g.M.SymMemory.kept r c.args.bound) (inference_view i) i.undecided refl others)

pub returns-clause-covers : goal.returns-clause-covers
returns-clause-covers g c = λ none.
    let p = prog_view c.args.prog.now in
    let q = proc_view c.in-Some.proc.now in
    let i = inference_view c.in_ok-inference.inference in
    let there : find_proc p.procs c.args.name.now ≡ Some q = sym c.proc.ensures ∙ ap (option_map (λ r. proc_view r.now)) c.in-Some.is in
    subst (λ f. Covers p g.M.Local.LocalMemory.memory g.M.Local.LocalMemory.actions f i.founds c.args.bound) (found_name p.procs c.args.name.now q there)
    (covers_so p g.M.Local.LocalMemory.memory g.M.Local.LocalMemory.actions q c.args.bound i (none_left asked_view c.in_ok-inference.inference.undecided none) c.in_ok-inference.ensures.cover)

pub returns-clause-decided : goal.returns-clause-decided
returns-clause-decided g c = λ decidable.
    let p = prog_view c.args.prog.now in
    let q = proc_view c.in-Some.proc.now in
    let there : find_proc p.procs c.args.name.now ≡ Some q = sym c.proc.ensures ∙ ap (option_map (λ r. proc_view r.now)) c.in-Some.is in
    nothing_left c.in_ok-inference.inference.undecided
    (c.in_ok-inference.ensures.decided
    (subst (IsDecidable g.M.SymMemory.keeps_plain p g.M.Local.LocalMemory.memory g.M.Local.LocalMemory.actions) (sym (found_name p.procs c.args.name.now q there)) decidable)).decided

pub returns-clause-narrow : goal.returns-clause-narrow
returns-clause-narrow g c = λ keep r found decidable.
    let p = prog_view c.args.prog.now in
    let q = proc_view c.in-Some.proc.now in
    let there : find_proc p.procs c.args.name.now ≡ Some q = sym c.proc.ensures ∙ ap (option_map (λ x. proc_view x.now)) c.in-Some.is in
    let same : r ≡ q = same_some (sym found ∙ there) in
    nothing_left c.in_ok-inference.inference.undecided
    (c.in_ok-inference.ensures.narrow keep (subst (IsNarrowlyDecidable p g.M.Local.LocalMemory.memory) same decidable)).decided

pub returns-clause-narrow_cover : goal.returns-clause-narrow_cover
returns-clause-narrow_cover g c = λ keep.
    let p = prog_view c.args.prog.now in
    let q = proc_view c.in-Some.proc.now in
    let memory = g.M.Local.LocalMemory.memory in
    let m = g.M.Local.LocalMemory.actions in
    let i = inference_view c.in_ok-inference.inference in
    let there : find_proc p.procs c.args.name.now ≡ Some q = sym c.proc.ensures ∙ ap (option_map (λ x. proc_view x.now)) c.in-Some.is in
    let same = found_name p.procs c.args.name.now q there in
    subst (λ f. CoversNarrowly p memory m f c.args.bound i.founds) same
    (covers_narrowly_so p memory m q c.args.bound (ap (find_proc p.procs) same ∙ there) i (c.in_ok-inference.ensures.narrow_cover keep))
