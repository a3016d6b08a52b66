use Rattle.std.proofs.Common.{Option, sym, ap, ◌∙◌}
use Rattle.std.proofs.lemmas.List.{append-nil}
use Rattle.std.specs.List.{flat_map}
use Rattle.std.specs.Option.{option_map, option_to_list}
use Rattle.vt_kinds.specs.Records.{seen}
use Rattle.vt_stores.specs.Shapes.{Fixed, fixed}
use Rattle.vt_verify.specs.Macros.{macro_bytes_in}
use Rattle.vt_stores.proofs.ObjectShapes.{fixed_found}
use Rattle.vt_verify.proofs.triggers.macro_bytes.Goals as goal

pub returns-in-Some : goal.returns-in-Some
returns-in-Some c =
    ap option_to_list c.named_macro.ensures
    ∙ sym (append-nil (option_to_list (macro_bytes_in c.args.id (fixed (seen c.in-Some.object.now)))))
    ∙ ap (λ (found : Option Fixed). flat_map (λ f. option_to_list (macro_bytes_in c.args.id f)) (option_to_list found))
    (sym (fixed_found c.args.objects.now c.args.id ∙ ap (option_map fixed) (sym c.in-Some.ensures.found)))

pub returns-in-None : goal.returns-in-None
returns-in-None c =
    ap (λ (found : Option Fixed). flat_map (λ f. option_to_list (macro_bytes_in c.args.id f)) (option_to_list found))
    (sym (fixed_found c.args.objects.now c.args.id ∙ ap (option_map fixed) (sym c.in-None.ensures.found)))
