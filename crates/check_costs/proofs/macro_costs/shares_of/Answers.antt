use Rattle.std.proofs.Common.{ℕ, List, ◌++◌, Some, refl, sym, ap, ◌∙◌}
use Rattle.std.proofs.lemmas.List.{append-nil}
use Rattle.std.specs.List.{flat_map}
use Rattle.vt_stores.specs.Shapes.{shape_of}
use Rattle.vt_verify.specs.Macros.{pieces_of}
use Rattle.vt_verify.proofs.lemmas.graphs.EventGroups.{whole_bytes}
use Rattle.check_costs.specs.declared.share.Share.{Share}
use Rattle.check_costs.specs.Shares.{piece_shares}
use Rattle.check_costs.proofs.Lists.{same_pieces}
use Rattle.check_costs.proofs.macro_costs.shares_of.Goals as goal

pub put_shares-requires-clause-whole : goal.put_shares-requires-clause-whole
put_shares-requires-clause-whole c =
    whole_bytes (shape_of c.args.pool.now.objects.now) c.args.id (Some c.in-Some.bytes.now) c.in-Some.bytes.now c.requires.whole c.in-Some.ensures refl

pub returns-in_ok-put_shares-in-Some : goal.returns-in_ok-put_shares-in-Some
returns-in_ok-put_shares-in-Some c =
    let shape = shape_of c.args.pool.now.objects.now in
    let hide = c.args.hide.now in
    let bytes = c.in-Some.bytes.now in
    let made : List ℕ → List Share = λ bytes. flat_map (piece_shares shape hide) (pieces_of (c.args.id, bytes)) in
    c.in_ok-put_shares-in-Some.ensures
    ∙ ap (λ (old : List Share). old ++ flat_map (piece_shares shape hide) (pieces_of (0, bytes))) c.new-shares.ensures.items
    ∙ same_pieces shape hide c.args.id bytes
    ∙ sym (append-nil (made bytes))
    ∙ ap (flat_map made) c.in-Some.ensures
