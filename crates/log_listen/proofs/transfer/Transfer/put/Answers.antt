use Rattle.std.proofs.Common.{◌≡◌, ◌≤◌, ◌+◌, ◌-◌, ◌*◌, length, drop, sym, ap, ◌∙◌, arith}
use Rattle.std.proofs.lemmas.List.{length-take, length-drop, with_items_is}
use Rattle.std.specs.Vec.{with_items}
use borrow.Rule.Slice.PartMut.{put_mid}
use Rattle.std.proofs.lemmas.Result.{on_ok_weaker}
use Rattle.log_listen.proofs.Fronts.{length_written}
use Rattle.log_listen.proofs.Places.{put_over}
use Rattle.log_listen.proofs.transfer.Transfer.put.Goals as goal

pub returns-then-place-self-clause-packets : goal.returns-then-place-self-clause-packets
returns-then-place-self-clause-packets c =
    on_ok_weaker c.put_next.result (λ made since has. made c.args.number since has (let offset = has.offset in omega arith)) c.put_next.ensures.packets

pub returns-then-end-len-clause-packets : goal.returns-then-end-len-clause-packets
returns-then-end-len-clause-packets c = λ since has.
    let place = c.from.result + c.from-2.result in
    let from = place * 7 - 7 in
    let count = place * 7 - from in
    let front = c.deref_mut.result.now in
    let same : front ≡ c.args.self.now.front.items = c.deref_mut.ensures.value in
    let within : place * 7 ≤ length front = omega arith in
    let seven : length c.args.packet ≡ 7
    = ap length (sym c.copy_from_slice.ensures.after) ∙ c.copy_from_slice.ensures.len ∙ omega (arith, length-take count (drop from front), length-drop from front, within) in
    let seven_count : count ≡ 7 = omega (arith, c.if-place-eq0.false) in
    let written = with_items c.args.self.now.front (put_mid from count front c.copy_from_slice.new.self) in
    let same_length : length (put_mid from count front c.copy_from_slice.new.self) ≡ length front
    = ap (λ n. length (put_mid from n front c.copy_from_slice.new.self)) seven_count ∙ length_written from front c.copy_from_slice.new.self (omega (arith, within, c.if-place-eq0.false)) (ap length c.copy_from_slice.ensures.after ∙ seven) in
    let items : written.items ≡ put_mid from count front c.copy_from_slice.new.self
    = with_items_is c.args.self.now.front (put_mid from count front c.copy_from_slice.new.self) (same_length ∙ c.deref_mut.ensures.len) in
    put_over c.args.number c.args.packet since c.args.self.now written place count (let a = c.from.ensures in let b = c.from-2.ensures in omega arith)
    (omega (arith, c.if-place-eq0.false)) (omega (arith, within, ap length same)) seven seven_count
    (items ∙ ap (λ l. put_mid from count l c.copy_from_slice.new.self) same ∙ ap (λ l. put_mid from count c.args.self.now.front.items l) c.copy_from_slice.ensures.after)
    has (ap length items ∙ same_length ∙ ap length same)
