use Rattle.checked_paths.proofs.TrailSteps.{met_along, met_at}
use Rattle.checked_paths.proofs.trails.trails_can_be_met.Goals as goal

pub returns : goal.returns
returns g c = record {
  of_paths = λ p e. met_along _ _ _ _ g.met.M.SymMemory.meaning p e;
  of_causes = λ p e. met_at _ _ _ _ g.met.M.SymMemory.meaning p e;
}
