use Rattle.std.proofs.Common.{rules, eqb, sym, ap, ◌∙◌, true≢false}
use Rattle.std.specs.Option.{option_eq}
use Rattle.vt_names.proofs.IndexAfterClaim.{same_option, option_same, with-same, goes}
use Rattle.vt_names.proofs.claims.Claims.hear.Goals as goal

pub returns-then-eq-clause-ok : goal.returns-then-eq-clause-ok
returns-then-eq-clause-ok c =
    let same = same_option c.claimed_address-claimed.result c.address_of-former.result (sym c.if-eq.ensures) in
    let stays = with-same c.args.self.now.addresses c.args.name c.claimed_address-claimed.result c.address_of-former.ensures.rising (search rules) in
    search rules

pub invariant_of-self-2 : goal.invariant_of-self-2
invariant_of-self-2 c =
    rw c.in_default.ensures.ok
    (goes c.self.inside.holders.names.items c.enter.new.self.names.items c.leave-2.new.self.names.items c.self.inside.addresses.entries c.args.name
    c.address_of-former.result c.claimed_address-claimed.result c.self.invariant (search rules)
    (λ is. true≢false (sym (option_same c.address_of-former.result) ∙ ap (λ o. option_eq eqb o c.address_of-former.result) (sym is) ∙ sym c.if-eq.ensures))
    c.in_ok-enter.ensures.ok c.leave-2.ensures)
