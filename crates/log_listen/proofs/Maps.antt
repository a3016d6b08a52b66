-- The transfers of a listener after the entry of a channel was put or removed.
use Rattle.std.proofs.Common.{◌≡◌, ℕ, eqb, cond, Bool, true, false, Option, Some, None, is_some, List, ◌∷◌, refl, sym, ap, ◌∙◌, subst, ⊎_elim}
use Rattle.std.specs.List.{cons_option}
use Rattle.std.specs.Ordering.{nat_cmp, is_eq}
use Rattle.std.specs.BTreeMap.{BTreeMap, get, UpdatesBy, Updates, WritesThrough}
use Rattle.std.proofs.lemmas.Bool.{cases_eq, eqb-true, eq-eqb, ne_eqb}
use Rattle.std.proofs.lemmas.Cmp.{ranked, by_ranked}
use Rattle.log_listen.specs.declared.part.Part.{Part}
use Rattle.log_listen.specs.declared.part.Part.TheVariants.{Abort}
use Rattle.vt_can.specs.Assigned.{VT_TO_ECU}
use Rattle.log_listen.specs.declared.transfer.Transfer.{Transfer}
use Rattle.log_listen.specs.declared.listener.Ends.{Ends}
use Rattle.log_listen.proofs.Channels.{back_apart}
use Rattle.log_listen.specs.Channels.{sent, refused}
use Rattle.log_listen.specs.Listeners.{IsEntryOf}
use Rattle.log_listen.specs.Steps.{said_only, said_between, channel_between, swapped}

abbrev pub Transfers : Type 0
Transfers = BTreeMap ℕ Transfer

pub apart_keys : (k q : ℕ) → (q ≡ k → ⊥) → is_eq (nat_cmp k q) ≡ false
apart_keys k q apart =
    by_ranked _ _ _ (nat_cmp k q) (ranked k q (nat_cmp k q) refl) (λ e _. ap is_eq e) (λ e same. absurd (apart (sym same))) (λ e _. ap is_eq e)

-- the map n is m with this entry at a channel
pub record IsPut (own : ℕ) (entry : Option Transfer) (m n : Transfers) : Type 0 where
  pub here : get nat_cmp n own ≡ entry
  pub others : (q : ℕ) → (q ≡ own → ⊥) → get nat_cmp n q ≡ get nat_cmp m q

updated : (own : ℕ) (entry : Option Transfer) (m n : Transfers) → Updates nat_cmp m n own entry → IsPut own entry m n
updated own entry m n h = record { here = h.1; others = λ q apart. h.2 q (apart_keys own q apart) }

pub removed : (k own : ℕ) (m n : Transfers) → k ≡ own → UpdatesBy nat_cmp (nat_cmp k) m n None → IsPut own None m n
removed k own m n is h = let P : ℕ → Type 0 = λ c. IsPut c None m n in subst P is (updated k None m n h)

pub put_again : (k k' own : ℕ) (transfer : Transfer) (m between n : Transfers) → k ≡ own → k' ≡ own → UpdatesBy nat_cmp (nat_cmp k) m between None
    → Updates nat_cmp between n k' (Some transfer) → IsPut own (Some transfer) m n
put_again k k' own transfer m between n is is' h h' =
    let first = removed k own m between is h in
    let P : ℕ → Type 0 = λ c. IsPut c (Some transfer) between n in
    let second = subst P is' (updated k' (Some transfer) between n h') in
    record { here = second.here; others = λ q apart. second.others q apart ∙ first.others q apart }

-- the transfer at a channel was changed in its place
pub written : (k own : ℕ) (m n : Transfers) (new old : Transfer) → k ≡ own → get nat_cmp m k ≡ Some old → WritesThrough nat_cmp (nat_cmp k) m new n
    → IsPut own (Some new) m n
written k own m n new old is there writes =
    let P : ℕ → Type 0 = λ c. IsPut c (Some new) m n in
    subst P is (updated k (Some new) m n (writes.3 (ap is_some there)))

-- and then it was removed
pub removed_after : (k own : ℕ) (m between n : Transfers) (transfer : Transfer) → k ≡ own → IsPut own (Some transfer) m between
    → UpdatesBy nat_cmp (nat_cmp k) between n None → IsPut own None m n
removed_after k own m between n transfer is first h =
    let second = removed k own between n is h in
    record { here = second.here; others = λ q apart. second.others q apart ∙ first.others q apart }

-- there is no transfer at a channel, and nothing has changed
pub unchanged : (own : ℕ) (m n : Transfers) → n ≡ m → get nat_cmp m own ≡ None → IsPut own None m n
unchanged own m n same none = let P : Transfers → Type 0 = IsPut own None m in subst P (sym same) (record { here = none; others = λ q apart. refl })

-- what was at a channel
pub found : (k own : ℕ) (m : Transfers) (result entry : Option Transfer) → k ≡ own → result ≡ get nat_cmp m k → result ≡ entry → get nat_cmp m own ≡ entry
found k own m result entry is value arm = ap (get nat_cmp m) (sym is) ∙ sym value ∙ arm

-- the entries of two maps, before and after what was said in each channel
abbrev pub Takes : (ℕ → Option Part) → Transfers → Transfers → Type 0
Takes says m n = (channel : ℕ) (parts : List Part) → IsEntryOf parts (get nat_cmp m channel) → IsEntryOf (cons_option (says channel) parts) (get nat_cmp n channel)

-- the entry of its channel takes in a part, and the others stay
pub takes_only : (own : ℕ) (part : Part) (m n : Transfers) (entry : Option Transfer) → IsPut own entry m n
    → ((parts : List Part) → IsEntryOf parts (get nat_cmp m own) → IsEntryOf (part ∷ parts) entry) → Takes (said_only own part) m n
takes_only own part m n entry put takes channel parts has =
    ⊎_elim
    (λ (same : channel ≡ own).
    let P : ℕ → Type 0 = λ c. IsEntryOf parts (get nat_cmp m c) in
    let Q : Option Transfer → Type 0 = IsEntryOf (part ∷ parts) in
    let R : ℕ → Type 0 = λ c. IsEntryOf (part ∷ parts) (get nat_cmp n c) in
    let S : Option Part → Type 0 = λ o. IsEntryOf (cons_option o parts) (get nat_cmp n channel) in
    subst S (sym (ap (λ b. cond b (Some part) None) (eq-eqb channel own same)))
    (subst R (sym same) (subst Q (sym put.here) (takes parts (subst P same has)))))
    (λ (apart : channel ≡ own → ⊥).
    let Q : Option Transfer → Type 0 = IsEntryOf parts in
    let S : Option Part → Type 0 = λ o. IsEntryOf (cons_option o parts) (get nat_cmp n channel) in
    subst S (sym (ap (λ b. cond b (Some part) None) (ne_eqb channel own apart))) (subst Q (sym (put.others channel apart)) has))
    (cases_eq channel own)

pub takes_as : (says says' : ℕ → Option Part) (m n : Transfers) → ((channel : ℕ) → says channel ≡ says' channel) → Takes says m n → Takes says' m n
takes_as says says' m n same takes channel parts has =
    let P : Option Part → Type 0 = λ o. IsEntryOf (cons_option o parts) (get nat_cmp n channel) in
    subst P (same channel) (takes channel parts has)

pub said_alone : (b d : Bool) (part : Part) (o p : Option Part) → o ≡ Some part → p ≡ None → cond b (Some part) None ≡ cond b o (cond d p None)
said_alone true d part o p is none = sym is
said_alone false true part o p is none = sym none
said_alone false false part o p is none = refl

-- a part that is said in the channel of its sender alone
pub takes_between : (ends : Ends) (part : Part) (m n : Transfers) (entry : Option Transfer) → sent (Some part) ≡ Some part → refused (Some part) ≡ None
    → IsPut (channel_between ends) entry m n
    → ((parts : List Part) → IsEntryOf parts (get nat_cmp m (channel_between ends)) → IsEntryOf (part ∷ parts) entry)
    → Takes (said_between ends part) m n
takes_between ends part m n entry is none put takes =
    takes_as (said_only (channel_between ends) part) (said_between ends part) m n
    (λ channel. said_alone (eqb channel (channel_between ends)) (eqb channel (channel_between (swapped ends))) part (sent (Some part)) (refused (Some part)) is none)
    (takes_only (channel_between ends) part m n entry put takes)

-- nothing was said, and nothing has changed
pub takes_nothing : (m : Transfers) → Takes (λ _. None) m m
takes_nothing m channel parts has = has

same_parts : (b d : Bool) (o p : Option Part) (parts : List Part) → (b ≡ true → d ≡ true → ⊥)
    → cons_option (cond d p None) (cons_option (cond b o None) parts) ≡ cons_option (cond b o (cond d p None)) parts
same_parts true true o p parts apart = absurd (apart refl refl)
same_parts true false o p parts apart = refl
same_parts false true o p parts apart = refl
same_parts false false o p parts apart = refl

-- what was said in one channel, and then in another
pub takes_both : (own other : ℕ) → (own ≡ other → ⊥) → (o p : Option Part) (m between n : Transfers) → Takes (λ channel. cond (eqb channel own) o None) m between
    → Takes (λ channel. cond (eqb channel other) p None) between n → Takes (λ channel. cond (eqb channel own) o (cond (eqb channel other) p None)) m n
takes_both own other apart o p m between n first second channel parts has =
    let P : List Part → Type 0 = λ l. IsEntryOf l (get nat_cmp n channel) in
    subst P (same_parts (eqb channel own) (eqb channel other) o p parts (λ a b. apart (sym (eqb-true channel own a) ∙ eqb-true channel other b)))
    (second channel _ (first channel parts has))

-- an abort by one of two ends
pub takes_abort : (ends : Ends) (pgn : ℕ) → (ends.source ≡ ends.destination → ⊥) → (m between n : Transfers)
    → Takes (λ channel. cond (eqb channel (channel_between ends)) (sent (Some (Abort pgn))) None) m between
    → Takes (said_only (channel_between (swapped ends)) (Abort pgn)) between n → Takes (said_between ends (Abort pgn)) m n
takes_abort ends pgn apart m between n first second =
    takes_both (channel_between ends) (channel_between (swapped ends)) (back_apart ends.is_extended ends.source ends.destination apart)
    (sent (Some (Abort pgn))) (Some (Abort pgn)) m between n first second

pub takes_sent_abort : (own pgn : ℕ) → (pgn ≡ VT_TO_ECU → ⊥) → (m n : Transfers) → Takes (said_only own (Abort pgn)) m n
    → Takes (λ channel. cond (eqb channel own) (sent (Some (Abort pgn))) None) m n
takes_sent_abort own pgn other m n takes =
    takes_as (said_only own (Abort pgn)) (λ channel. cond (eqb channel own) (sent (Some (Abort pgn))) None) m n
    (λ channel. ap (λ (o : Option Part). cond (eqb channel own) o None) (sym (ap (λ b. cond b None (Some (Abort pgn))) (ne_eqb pgn VT_TO_ECU other)))) takes

none_said : (b : Bool) → ◌≡◌ {A = Option Part} None (cond b None None)
none_said true = refl
none_said false = refl

pub takes_no_abort : (own pgn : ℕ) → pgn ≡ VT_TO_ECU → (m : Transfers) → Takes (λ channel. cond (eqb channel own) (sent (Some (Abort pgn))) None) m m
takes_no_abort own pgn is m =
    takes_as (λ _. None) (λ channel. cond (eqb channel own) (sent (Some (Abort pgn))) None) m m
    (λ channel. none_said (eqb channel own) ∙ ap (λ (o : Option Part). cond (eqb channel own) o None) (sym (ap (λ b. cond b None (Some (Abort pgn))) (eq-eqb pgn VT_TO_ECU is)))) (takes_nothing m)
