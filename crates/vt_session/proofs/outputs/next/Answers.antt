use Rattle.std.proofs.Common.{◌<◌, ◌+◌, ◌-◌, Bool, List, None, length, cond, refl, sym, ap, subst, ◌∙◌, arith}
use Rattle.std.specs.List.{slice_get}
use Rattle.vt_session.specs.declared.session.Session.{Session}
use Rattle.vt_session.specs.Calls.{NextsBy}
use Rattle.vt_session.specs.Outputs.{HostItem, kind_of}
use Rattle.vt_session.specs.Sessions.{items}
use Rattle.vt_session.proofs.Queue.{beyond_items, known_item, known_none, taken_at, not_first}
use Rattle.vt_session.proofs.outputs.next.Goals as goal

pub next_of_none-requires : goal.next_of_none-requires
next_of_none-requires c =
    let session = c.args.session.now in
    beyond_items (items session) session.next (known_none kind_of (slice_get (items session) session.next) c.in_default.ensures.kind)

pub overflow_add-session : goal.overflow_add-session
overflow_add-session c =
    let session = c.args.session.now in
    let within : session.next < length session.outputs.items + length session.observer.events.items = c.in-Some.ensures.within refl in
    omega (arith, within, session.outputs.ok.0, session.outputs.ok.1, session.outputs.small, session.observer.events.ok.0, session.observer.events.ok.1, session.observer.events.small)

pub returns : goal.returns
returns c =
    let before = c.args.session.now in
    let after : Session = record before { next = before.next + 1 } in
    let known = known_item kind_of (slice_get (items before) before.next) c.in-Some.kind c.in-Some.ensures.kind in
    let item = known.0 in
    let taken = taken_at (items before) before.next item known.1.0 in
    record {
      taken = subst (λ (all : List HostItem). NextsBy all before after c.in-Some.kind) (sym taken.0) (
        known.1.1,
        (refl, ap (λ (b : Bool). cond b None (slice_get (items before) (before.next + 1 - 1))) (not_first before.next) ∙ taken.1),
      );
      stays = record { state = refl; redraws = refl; looks = refl; begun = refl; text = refl };
    }
