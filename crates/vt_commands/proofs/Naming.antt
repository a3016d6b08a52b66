-- The function of a command is the first of its bytes.
use Rattle.std.proofs.Common.{◌≡◌, ℕ, Bool, true, false, ◌&&◌, cond, eqb, leb, List, [], ◌∷◌, length, Some, refl, sym, ap, ◌∙◌}
use Rattle.std.proofs.lemmas.Bool.{eqb-true}
use Rattle.std.specs.List.{AllByRecursion}
use Rattle.vt_commands.specs.declared.command.Command.{Command}
use Rattle.vt_commands.specs.Commands.{CommandRow, rows, byte, command_among, FunctionIsFirst, function_of}

-- the commands of a row have its function
abbrev IsNamed : CommandRow → Type 0
IsNamed r = (bytes : List ℕ) → function_of (r.command bytes) ≡ r.function

rows-named : AllByRecursion IsNamed rows
rows-named = (
  λ b. refl,
  (
    λ b. refl,
    (
      λ b. refl,
      (
        λ b. refl,
        (
          λ b. refl,
          (
            λ b. refl,
            (
              λ b. refl,
              (
                λ b. refl,
                (
                  λ b. refl,
                  (
                    λ b. refl,
                    (
                      λ b. refl,
                      (
                        λ b. refl,
                        (
                          λ b. refl,
                          (
                            λ b. refl,
                            (
                              λ b. refl,
                              (
                                λ b. refl,
                                (
                                  λ b. refl,
                                  (
                                    λ b. refl,
                                    (λ b. refl, (λ b. refl, (λ b. refl, tt))),
                                  ),
                                ),
                              ),
                            ),
                          ),
                        ),
                      ),
                    ),
                  ),
                ),
              ),
            ),
          ),
        ),
      ),
    ),
  ),
)

first-among : (rs : List CommandRow) → AllByRecursion IsNamed rs → (bytes : List ℕ) (command : Command) → command_among rs bytes ≡ Some command
    → function_of command ≡ byte bytes 0
first-among [] named bytes command is = absurd cc
first-among (r ∷ rs) named bytes command is =
    by (eqb (byte bytes 0) r.function) refl (leb r.least (length bytes)) (first-among rs named.1 bytes command) is
  where
    by : (b : Bool) → eqb (byte bytes 0) r.function ≡ b → (c : Bool)
        → (command_among rs bytes ≡ Some command → function_of command ≡ byte bytes 0)
        → cond (b && c) (Some (r.command bytes)) (command_among rs bytes) ≡ Some command
        → function_of command ≡ byte bytes 0
    by true same true later is =
        let this : r.command bytes ≡ command = cc in
        sym (ap function_of this) ∙ named.0 bytes ∙ sym (eqb-true (byte bytes 0) r.function same)
    by true same false later is = later is
    by false other c later is = later is

pub function_is_first : FunctionIsFirst
function_is_first bytes command is = first-among rows rows-named bytes command is
