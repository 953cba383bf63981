use Rattle.std.proofs.Common.{◌≡◌, List, map, length, sym, ap, subst, ◌∙◌, arith}
use Rattle.std.proofs.lemmas.List.{length-map}
use Rattle.gil_syntax.specs.Program.{prog_view}
use Rattle.gil_syntax.specs.View.{spec_view}
use Rattle.spec_answers.specs.declared.answers.Examined.{Examined}
use Rattle.spec_causes.specs.declared.meeting.Met.{Met}
use Rattle.spec_checker.proofs.Examined.{ExaminedUntil, examined_none, examined_more, examined_all}
use Rattle.spec_checker.proofs.Found.{found_at, spec_read}
use Rattle.spec_checker.proofs.examining.examine_all.Goals as goal

pub loop-place-init : goal.loop-place-init
loop-place-init g c =
    let p = prog_view c.args.prog.now in
    subst (λ (xs : List (Examined Met)). ExaminedUntil p g.M.Local.LocalMemory.memory g.M.Local.LocalMemory.actions g.M.SymMemory.keeps_plain c.args.bound p.specs 0 xs) (sym c.new-examined.ensures)
    (examined_none p g.M.Local.LocalMemory.memory g.M.Local.LocalMemory.actions g.M.SymMemory.keeps_plain c.args.bound p.specs)

pub examine-requires : goal.examine-requires
examine-requires g c =
    let p = prog_view c.args.prog.now in
    let seen = ap (map spec_view) c.as_slice-specs.ensures ∙ c.specs.ensures in
    record {
      bounded = c.requires.bounded;
      found =
          found_at p c.args.prog.now.valid c.loop-place.place (spec_view c.index-specs-place.result)
          (spec_read c.as_slice-specs.result.now p.specs c.loop-place.place c.index-specs-place.result seen c.loop-place-test.true c.index-specs-place.is);
      modes = c.requires.modes;
    }

pub loop-place-preserved : goal.loop-place-preserved
loop-place-preserved g c =
    let p = prog_view c.args.prog.now in
    let seen = ap (map spec_view) c.as_slice-specs.ensures ∙ c.specs.ensures in
    examined_more p g.M.Local.LocalMemory.memory g.M.Local.LocalMemory.actions g.M.SymMemory.keeps_plain c.args.bound p.specs c.loop-place.place c.loop-place.examined c.push.new.self c.in_ok-examine.field-0
    (spec_view c.index-specs-place.result) c.loop-place.invariant
    (spec_read c.as_slice-specs.result.now p.specs c.loop-place.place c.index-specs-place.result seen c.loop-place-test.true c.index-specs-place.is)
    c.in_ok-examine.ensures c.in_ok-push.ensures.ok

pub returns : goal.returns
returns g c =
    let p = prog_view c.args.prog.now in
    let seen = ap (map spec_view) c.as_slice-specs.ensures ∙ c.specs.ensures in
    let count = length-map c.as_slice-specs.result.now spec_view in
    let many = ap length seen in
    let all : c.loop-place.place ≡ length p.specs = omega (arith, count, many) in
    examined_all p g.M.Local.LocalMemory.memory g.M.Local.LocalMemory.actions g.M.SymMemory.keeps_plain c.args.bound p.specs c.loop-place.place c.loop-place.examined all c.loop-place.invariant
