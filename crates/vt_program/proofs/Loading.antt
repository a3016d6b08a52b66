-- Lemmas on loading: from a pool's file to the first terminal of a replay, and from a log to the text written.
use Rattle.std.proofs.Common.{◌≡◌, ◌∙◌, ℕ, nat_cmp, false, List, [], inr, Option, Some, None, IfSome, refl, sym, ap, subst}
use Rattle.std.specs.Io.KnownBytes.{Appends, Keeps}
use Rattle.std.proofs.KnownBytes.{Appends-kept}
use Rattle.vt_judge.specs.Judgements.{IsPool, IsAcceptedPool}
use Rattle.vt_judge.specs.Judgements as judgements
use Rattle.vt_pool.specs.Pools.{PoolEntry, contents}
use Rattle.std.specs.FinMap as finite
use Rattle.std.specs.FinMap.{nat_cmp-IsAntisymmetric}
use Rattle.std.proofs.lemmas.Cmp.{nat_cmp_total}
use Rattle.std.proofs.lemmas.List.{append-nil}
use Rattle.vt_stores.specs.Stores.{ObjectMap, by_rising_id, map_of}
use Rattle.vt_verify.specs.Rules.{IsVerified, IsRefused, IsWantOfMemory}
use Rattle.vt_chains.specs.Limits.{terminal}
use Rattle.vt_verify.specs.declared.refusal.Refusal.{Refusal}
use Rattle.vt_verify.specs.Reports.{report_text}
use Rattle.vt_logs.specs.declared.counts.Counts.{Counts}
use Rattle.vt_node.specs.Profile.{standard}
use Rattle.vt_program.specs.declared.options.Options.{Options}
use Rattle.vt_program.specs.declared.options.Preload.{Preload}
use Rattle.vt_logs.specs.declared.fault.ReplayFault.{ReplayFault}
use Rattle.vt_logs.specs.declared.fault.ReplayFault.TheVariants.{TooLong, Write}
use Rattle.vt_logs.specs.EarlyEnds.{HasStopped, HasStoppedAtLong}
use Rattle.vt_logs.specs.Lines.{lines_of}
use Rattle.vt_logs.specs.Replays.{IsReplay, HasLongLine}
use Rattle.vt_program.specs.Runs.{FileContents, IsLoaded, IsPoolOf, IsAcceptedPoolOf, IsRefusedPool, IsReportOf, IsStart, HasReplayedUntil, WritesReplay, new_state}
use Rattle.vt_logs.specs.Texts.{counts_text}
use Rattle.vt_server.specs.state.AddressStates.{empty}
use Rattle.vt_server.specs.Steps.{preloading}
use Rattle.vt_server.specs.Terminals.{State}

-- The contents of the entries of a map are the map.
pub entries_again : (m : ObjectMap) → contents (finite.entries m) ≡ m
entries_again m =
    finite.same_map nat_cmp_total nat_cmp-IsAntisymmetric (contents (finite.entries m)) m
    (λ q. finite.get-from_entries nat_cmp_total (finite.entries m) q ∙ sym (finite.get-entries m q))

-- The map of the entries of a map is the map.
pub map_again : (m : ObjectMap) → map_of (finite.entries m) ≡ m
map_again m =
    finite.same_map nat_cmp_total nat_cmp-IsAntisymmetric (map_of (finite.entries m)) m
    (λ q. finite.get-from_sorted nat_cmp (finite.entries m) q (finite.entries_sorted m) ∙ sym (finite.get-entries m q))

-- The map of a list that is the entries of its contents is these contents.
map_is : (pool : List PoolEntry) → pool ≡ finite.entries (contents pool) → map_of pool ≡ contents pool
map_is pool is = ap map_of is ∙ map_again (contents pool)

-- An accepted pool has the objects of the pool that was read.
pub same_objects : (pool accepted : List PoolEntry) → accepted ≡ by_rising_id pool → contents accepted ≡ contents pool
unfolding by_rising_id
same_objects pool accepted is = ap contents is ∙ entries_again (contents pool)

-- An accepted pool has its objects by rising ID.
pub accepted_rising : (pool accepted : List PoolEntry) → accepted ≡ by_rising_id pool → accepted ≡ finite.entries (contents accepted)
unfolding by_rising_id
accepted_rising pool accepted is = is ∙ ap finite.entries (sym (same_objects pool accepted is))

-- The objects of judged bytes are those of a pool.
pool_of : (read : List ℕ) (objects : List PoolEntry) → IsPool read objects → IsPoolOf read (contents objects)
pool_of read objects p =
    subst (IsPoolOf read) (sym (same_objects p.pool objects p.rising)) (record { records = p.records; whole = p.whole; spelled = p.spelled; in_force = p.in_force.last })

pub rising : (read : List ℕ) (accepted : List PoolEntry) → IsAcceptedPool read accepted → accepted ≡ finite.entries (contents accepted)
rising read accepted judged = accepted_rising judged.pool.pool accepted judged.pool.rising

pub accepted_pool : (read : List ℕ) (accepted : List PoolEntry) → IsAcceptedPool read accepted → IsAcceptedPoolOf read (contents accepted)
accepted_pool read accepted judged = (pool_of read accepted judged.pool, subst IsVerified (rising read accepted judged) judged.verified)

pub refused_pool : (read : List ℕ) (why : Refusal) → judgements.IsRefusedPool read why → (IsWantOfMemory why → ⊥) → IsRefusedPool read why
refused_pool read why judged named = record {
  objects = contents judged.objects;
  pool = pool_of read judged.objects judged.pool;
  refused = subst (λ (objects : List PoolEntry). IsRefused terminal objects why) (accepted_rising judged.pool.pool judged.objects judged.pool.rising) judged.refused;
  named = named;
}

-- An accepted pool of a file is a pool of the file.
pool_of_file : (file : Option (List ℕ)) (objects : ObjectMap) → IfSome file (λ bytes. IsAcceptedPoolOf bytes objects) → IfSome file (λ bytes. IsPoolOf bytes objects)
pool_of_file None objects is = tt
pool_of_file (Some bytes) objects is = is.0

-- The set of an accepted pool is loaded.
pub loaded_with : (files : FileContents) (p : Preload) (before after : State) (pool : List PoolEntry)
    → IfSome (files p.pool.now) (λ bytes. IsAcceptedPoolOf bytes (contents pool)) → IsVerified pool → pool ≡ finite.entries (contents pool)
    → after ≡ preloading before p.owner (map_of pool) → IsLoaded files p before after
loaded_with files p before after pool accepted verified rising state = record {
  objects = contents pool;
  verified = subst IsVerified rising verified;
  pool = pool_of_file (files p.pool.now) (contents pool) accepted;
  state = state ∙ ap (preloading before p.owner) (map_is pool rising);
}

-- The text of a report is that of the pool in the file.
pub report_of_file : (file : Option (List ℕ)) (pool : List PoolEntry) (text : List ℕ) → IfSome file (λ bytes. IsAcceptedPoolOf bytes (contents pool))
    → pool ≡ finite.entries (contents pool) → text ≡ report_text pool → IfSome file (λ bytes. IsReportOf bytes text)
report_of_file None pool text is rising same = tt
report_of_file (Some bytes) pool text is rising same =
    record { objects = contents pool; accepted = is; text_is = same ∙ ap report_text rising }

pub new_is : (s : State) (own name : ℕ) → s.claims ≡ record { own = own; name = name; addresses = [] } → s.profile ≡ standard → s.sets ≡ []
    → ((address : ℕ) → s.places address ≡ empty) → s.selected ≡ None → s.shown ≡ None → s.lost ≡ false → s.now ≡ 0 → s ≡ new_state own name
new_is s own name claims profile sets places selected shown lost now =
    λ i. record { claims = claims i; profile = profile i; sets = sets i; places = λ address. places address i; selected = selected i; shown = shown i; lost = lost i; now = now i }

pub start_alone : (files : FileContents) (options : Options) (s : State) → options.preload ≡ None
    → s ≡ new_state options.own options.name → IsStart files options s
start_alone files options s none same = rw none same

pub start_with_set : (files : FileContents) (options : Options) (before s : State) (p : Preload) → options.preload ≡ Some p
    → IsLoaded files p before s → before ≡ new_state options.own options.name → IsStart files options s
start_with_set files options before s p some loaded same =
    rw some (subst (λ (b : State). IsLoaded files p b s) same loaded)

pub replay_written : (file remaining old mid new : Option (List ℕ)) (start end : State) (counts : Counts)
    → IfSome file (λ bytes. remaining ≡ Some bytes)
    → IfSome remaining (λ input. (text : List ℕ) × Appends old mid text × IsReplay start input text counts end)
    → Keeps mid new → IfSome file (λ input. WritesReplay start input old new)
replay_written None remaining old mid new start end counts same replay keeps = tt
replay_written (Some bytes) remaining old mid new start end counts same replay keeps =
    let r = rw same at replay in
    record { text = r.0; counts = counts; end = end; replay = r.2; written = Appends-kept old mid new r.0 r.1 keeps }

-- ---- the output where a log is not replayed to its end

-- A whole replay whose text is written is also one that ended early.
whole_stands : (start end : State) (input text : List ℕ) (counts : Counts) (old new : Option (List ℕ)) → IsReplay start input text counts end
    → Appends old new text → HasStopped start input end old new
whole_stands start end input text counts old new r written =
    inr (record {
      front = lines_of input;
      back = [];
      readings = r.readings;
      first = r.first;
      last = r.last;
      printed = r.printed;
      text = counts_text counts;
      whole = sym (append-nil (lines_of input));
      read = r.read;
      short = r.short;
      starts = r.starts;
      shown = r.shown;
      takes = r.takes;
      leaves = inr (record {
        none_left = refl;
        now_is = r.now_is;
        rest = [];
        parts = ap counts_text (sym r.counts_are) ∙ sym (append-nil (counts_text counts));
      });
      written = subst (Appends old new) r.text_is written;
    })

-- A replay is written whole, and its flush fails.
pub whole_written : (file remaining old mid new : Option (List ℕ)) (start end : State) (counts : Counts)
    → IfSome file (λ bytes. remaining ≡ Some bytes)
    → IfSome remaining (λ input. (text : List ℕ) × Appends old mid text × IsReplay start input text counts end)
    → Keeps mid new → IfSome file (λ input. HasReplayedUntil start input Write old new)
whole_written None remaining old mid new start end counts same replay keeps = tt
whole_written (Some bytes) remaining old mid new start end counts same replay keeps =
    let r = rw same at replay in
    record {
      now = end;
      stopped = whole_stands start end bytes r.0 counts old new r.2 (Appends-kept old mid new r.0 r.1 keeps);
      at_long = λ e. absurd cc;
    }

-- A replay of a file ended early.
pub front_written : (file remaining old new : Option (List ℕ)) (start end : State) (why : ReplayFault) → IfSome file (λ bytes. remaining ≡ Some bytes)
    → IfSome remaining (λ input. HasStopped start input end old new)
    → (why ≡ TooLong → IfSome remaining (λ input. HasStoppedAtLong start input end old new))
    → IfSome file (λ input. HasReplayedUntil start input why old new)
front_written None remaining old new start end why same stopped at_long = tt
front_written (Some bytes) remaining old new start end why same stopped at_long =
    record { now = end; stopped = rw same at stopped; at_long = λ e. rw same at (at_long e) }

-- The line that is too long is one of the file.
pub long_written : (file remaining old new : Option (List ℕ)) (start end : State) (why : ReplayFault) → IfSome file (λ bytes. remaining ≡ Some bytes)
    → (why ≡ TooLong → IfSome remaining (λ input. HasStoppedAtLong start input end old new)) → IfSome file (λ input. why ≡ TooLong → HasLongLine input)
long_written None remaining old new start end why same stopped = tt
long_written (Some bytes) remaining old new start end why same stopped = λ e. let s = rw same at (stopped e) in s.long

-- The fault Write is not TooLong.
pub never_long : (file : Option (List ℕ)) → IfSome file (λ input. Write ≡ TooLong → HasLongLine input)
never_long None = tt
never_long (Some bytes) = λ e. absurd cc
