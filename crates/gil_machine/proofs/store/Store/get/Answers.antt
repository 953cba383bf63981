use Rattle.std.proofs.Common.{◌≡◌, None, slice_get, unwrap_or, sym, ap, ◌∙◌}
use Rattle.std.specs.Option.{option_map}
use Rattle.std.proofs.lemmas.Option.{unwrap_or-slice_get}
use Rattle.gil_values.proofs.Lists.{option_map-item}
use Rattle.gil_values.specs.View.{value_view}
use Rattle.gil_machine.specs.StoreView.{store_view}
use Rattle.gil_machine.proofs.KeptValues.{seen_found}
use Rattle.gil_machine.proofs.store.Store.get.Goals as goal

pub returns-in-Some : goal.returns-in-Some
returns-in-Some c =
    let at : option_map (λ x. option_map value_view x.now) c.get.result ≡ slice_get (store_view c.args.self.now) c.args.slot = rw (← c.deref.ensures.value) (option_map-item (option_map value_view) _ c.args.slot c.get.result c.get.ensures.lookup) in
    seen_found c.as_ref.result ∙ ap (option_map value_view) c.as_ref.ensures.value
    ∙ ap (λ o. unwrap_or o None) (sym (ap (option_map (λ x. option_map value_view x.now)) c.in-Some.is) ∙ at) ∙ unwrap_or-slice_get (store_view c.args.self.now) c.args.slot None

pub returns-in-None : goal.returns-in-None
returns-in-None c =
    let at : option_map (λ x. option_map value_view x.now) c.get.result ≡ slice_get (store_view c.args.self.now) c.args.slot = rw (← c.deref.ensures.value) (option_map-item (option_map value_view) _ c.args.slot c.get.result c.get.ensures.lookup) in
    ap (λ o. unwrap_or o None) (sym (ap (option_map (λ x. option_map value_view x.now)) c.in-None.is) ∙ at) ∙ unwrap_or-slice_get (store_view c.args.self.now) c.args.slot None
