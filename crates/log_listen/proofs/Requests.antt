-- The request of a transfer: the latest one of its channel.
use Rattle.std.proofs.Common.{◌≡◌, ℕ, List, [], ◌∷◌, ◌++◌, refl, sym, ◌∙◌, subst}
use Rattle.log_listen.specs.declared.part.Part.{Part}
use Rattle.log_listen.specs.declared.part.Part.TheVariants.{Request}
use Rattle.log_listen.specs.Transfers.{LeavesOpen, AllLeaveOpen, IsRequested}

abbrev pub IsNoRequest : Part → Type 0
IsNoRequest part = (size pgn : ℕ) → part ≡ Request size pgn → ⊥

pub no_request : (pgn : ℕ) (part : Part) → LeavesOpen pgn part → IsNoRequest part
no_request pgn part leaves size other is = let P : Part → Type 0 = LeavesOpen pgn in subst P is leaves

-- two requests with their parts since are the same
pub record IsSame (size pgn : ℕ) (since : List Part) (size' pgn' : ℕ) (since' : List Part) : Type 0 where
  pub size_is : size ≡ size'
  pub pgn_is : pgn ≡ pgn'
  pub since_is : since ≡ since'

longer : (a b : Part) (size pgn size' pgn' : ℕ) (ps qs : List Part) → a ≡ b → IsSame size pgn ps size' pgn' qs → IsSame size pgn (a ∷ ps) size' pgn' (b ∷ qs)
longer a b size pgn size' pgn' ps qs e same = record { size_is = same.size_is; pgn_is = same.pgn_is; since_is = let e' = same.since_is in cc }

same_split : (since since' earlier earlier' : List Part) (size pgn size' pgn' : ℕ) → AllLeaveOpen pgn since → AllLeaveOpen pgn' since'
    → since ++ Request size pgn ∷ earlier ≡ since' ++ Request size' pgn' ∷ earlier' → IsSame size pgn since size' pgn' since'
same_split [] [] earlier earlier' size pgn size' pgn' stays stays' e = record { size_is = cc; pgn_is = cc; since_is = refl }
same_split [] (x ∷ since') earlier earlier' size pgn size' pgn' stays stays' e =
    let is : x ≡ Request size pgn = cc in
    absurd (no_request pgn' x stays'.0 size pgn is)
same_split (x ∷ since) [] earlier earlier' size pgn size' pgn' stays stays' e =
    let is : x ≡ Request size' pgn' = cc in
    absurd (no_request pgn x stays.0 size' pgn' is)
same_split (x ∷ since) (y ∷ since') earlier earlier' size pgn size' pgn' stays stays' e =
    let head : x ≡ y = cc in
    let tail : since ++ Request size pgn ∷ earlier ≡ since' ++ Request size' pgn' ∷ earlier' = cc in
    longer x y size pgn size' pgn' since since' head (same_split since since' earlier earlier' size pgn size' pgn' stays.1 stays'.1 tail)

-- the request of an open transfer determines it
pub requested_once : (parts : List Part) (size pgn size' pgn' : ℕ) (since since' : List Part)
    → IsRequested parts size pgn since → IsRequested parts size' pgn' since' → IsSame size pgn since size' pgn' since'
requested_once parts size pgn size' pgn' since since' a b =
    same_split since since' a.earlier b.earlier size pgn size' pgn' a.stays b.stays (sym a.split ∙ b.split)

-- one more part that is no request
pub record IsLonger (part : Part) (parts : List Part) (size pgn : ℕ) (since : List Part) : Type 0 where
  pub before : List Part
  pub since_is : since ≡ part ∷ before
  pub leaves : LeavesOpen pgn part
  pub requested : IsRequested parts size pgn before

pub is_longer : (part : Part) (parts : List Part) (size pgn : ℕ) (since : List Part) → IsNoRequest part → IsRequested (part ∷ parts) size pgn since
    → IsLonger part parts size pgn since
is_longer part parts size pgn [] none requested = let e = requested.split in let is : part ≡ Request size pgn = cc in absurd (none size pgn is)
is_longer part parts size pgn (x ∷ since) none requested =
    let e = requested.split in
    let head : x ≡ part = cc in
    let tail : parts ≡ since ++ Request size pgn ∷ requested.earlier = cc in
    let P : Part → Type 0 = LeavesOpen pgn in
    record {
      before = since;
      since_is = cc;
      leaves = subst P head requested.stays.0;
      requested = record { earlier = requested.earlier; split = tail; some = requested.some; stays = requested.stays.1 };
    }

pub one_more : (part : Part) (parts : List Part) (size pgn : ℕ) (since : List Part) → LeavesOpen pgn part → IsRequested parts size pgn since
    → IsRequested (part ∷ parts) size pgn (part ∷ since)
one_more part parts size pgn since leaves requested =
    record { earlier = requested.earlier; split = let e = requested.split in cc; some = requested.some; stays = (leaves, requested.stays) }

-- a request, which opens the transfer of a message that is not empty
pub at_request : (size' pgn' : ℕ) (parts : List Part) (size pgn : ℕ) (since : List Part) → IsRequested (Request size' pgn' ∷ parts) size pgn since
    → IsSame size pgn since size' pgn' []
at_request size' pgn' parts size pgn [] requested = let e = requested.split in record { size_is = cc; pgn_is = cc; since_is = refl }
at_request size' pgn' parts size pgn (x ∷ since) requested =
    let e = requested.split in
    let is : x ≡ Request size' pgn' = cc in
    absurd (no_request pgn x requested.stays.0 size' pgn' is)
