use Rattle.sym_paths.proofs.Binding.{bindings_keep_stores}
use Rattle.sym_paths.proofs.laws.bindings_keep_stores.Goals as goal

pub returns : goal.returns
returns c = bindings_keep_stores
