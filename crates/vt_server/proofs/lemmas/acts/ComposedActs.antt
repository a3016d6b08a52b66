-- Acts write to one address; lists of acts compose.
use Rattle.std.proofs.Common.{◌≡◌, ℕ, List, [], ◌∷◌, ◌++◌, Option, Some, None, refl, sym, ap, ◌∙◌, append_assoc}
use Rattle.vt_names.specs.Registry.{Set, set_at}
use Rattle.vt_node.proofs.Sets.{none-same}
use Rattle.vt_server.specs.state.AddressViews.{AddressOutcome, Act, outcome}
use Rattle.vt_server.specs.Terminals.{State, part, put, after_act, after_acts, sent_by_act, sent_by_acts, to_address, with_set_at}
use Rattle.vt_names.proofs.SetsByAddress.{with_set-same}

-- A write of the present set changes nothing.
pub sets-same : (a : ℕ) (sets : List Set) (o : Option Set) → set_at a sets ≡ o → with_set_at a o sets ≡ sets
sets-same a sets None e = none-same a sets e
sets-same a sets (Some s) e = with_set-same a s sets e

-- ---- one act, and several

pub act-is : (s : State) (a : ℕ) (h : Act) → after_act s a h ≡ put a (outcome s.now a (part a s) h) s
unfolding after_act
act-is s a h = refl

pub sent_by_one-is : (s : State) (a : ℕ) (h : Act) → sent_by_act s a h ≡ to_address a (outcome s.now a (part a s) h)
unfolding sent_by_act
sent_by_one-is s a h = refl

pub acts-append : (s : State) (hs ks : List (ℕ × Act)) → after_acts s (hs ++ ks) ≡ after_acts (after_acts s hs) ks
acts-append s [] ks = refl
acts-append s (h ∷ hs) ks = acts-append (after_act s h.0 h.1) hs ks

pub sent-append : (s : State) (hs ks : List (ℕ × Act)) → sent_by_acts s (hs ++ ks) ≡ sent_by_acts s hs ++ sent_by_acts (after_acts s hs) ks
sent-append s [] ks = refl
sent-append s (h ∷ hs) ks =
    let t = after_act s h.0 h.1 in
    ap (λ l. sent_by_act s h.0 h.1 ++ l) (sent-append t hs ks)
    ∙ sym (append_assoc (sent_by_act s h.0 h.1) (sent_by_acts t hs) (sent_by_acts (after_acts t hs) ks))

-- A field that no act writes is unchanged.
pub beside-act : {X : Type 0} (read : State → X) → ((a : ℕ) (o : AddressOutcome) (s : State) → read (put a o s) ≡ read s) → (s : State) (a : ℕ) (h : Act) → read (after_act s a h) ≡ read s
beside-act read stays s a h = ap read (act-is s a h) ∙ stays a (outcome s.now a (part a s) h) s

pub beside : {X : Type 0} (read : State → X) → ((a : ℕ) (o : AddressOutcome) (s : State) → read (put a o s) ≡ read s) → (s : State) (hs : List (ℕ × Act)) → read (after_acts s hs) ≡ read s
beside read stays s [] = refl
beside read stays s (h ∷ hs) = beside read stays (after_act s h.0 h.1) hs ∙ beside-act read stays s h.0 h.1
