-- Lines of a trace: no newline in them.
use Rattle.std.proofs.Common.{◌≡◌, ◌==◌, ℕ, true, not, List, arith, get_or}
use Rattle.std.proofs.lemmas.List.Elements.{All-map}
use Rattle.log_trace.specs.Lines.{HasNoNewline, dotted, shown_byte}

shown_byte_is_no_newline : (byte : ℕ) → not (shown_byte byte == 10) ≡ true
shown_byte_is_no_newline byte = grind arith

pub HasNoNewline-dotted : (text : List ℕ) → HasNoNewline (dotted text)
HasNoNewline-dotted text =
    All-map (λ byte. not (byte == 10) ≡ true) shown_byte text (λ k d below. shown_byte_is_no_newline (get_or text k d))
