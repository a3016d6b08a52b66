use Rattle.std.proofs.Common.{◌∙◌, ℕ, sym, subst, rules}
use Rattle.vt_machine.specs.SetStates.{active_in}
use Rattle.draw_picture.specs.Documents.{IsPicture}
use Rattle.vt_stores.specs.Stores.{ObjectMap, map_of}
use Rattle.log_runs.proofs.picture.picture_shown.Goals as goal

pub returns : goal.returns
returns c =
    let set = c.in-Some-set.live.now in
    let text = c.in_ok-draw.field-0.items in
    record {
      address = c.in-Some.address;
      shown = sym c.shown.ensures ∙ c.in-Some.is;
      set = set;
      of_address = search rules;
      picture = subst (λ (objects : ObjectMap). IsPicture c.args.sizes objects (active_in set.objects) text) c.store.ensures.objects
          (subst (λ (mask : ℕ). IsPicture c.args.sizes (map_of c.store.result.now) mask text) c.active_mask.ensures.active c.in_ok-draw.ensures);
    }
