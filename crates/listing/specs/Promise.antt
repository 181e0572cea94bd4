-- The promises of the listing call and of the program's call: what the program prints for an input, and what is written of it. They rest on the rule call's
-- promise: the listing is that of an answer and of four buffers for which that promise holds.
-- Assumes nothing.
use Rattle.std.specs.Prelude.{ℕ, suc, ◌*◌, min, ◌≡◌, ◌++◌, ◌⊎◌, length, take, drop, replicate}
use Rattle.reader.specs.Text.{Text}
use Rattle.plays.specs.declared.mode.Mode.{Mode}
use Rattle.automaton.specs.Limits.{state_limit, number_limit, letter_limit}
use Rattle.game.specs.Answer.{Answer}
use Rattle.game.specs.Rule.{Buffers, buffers, RuleSolved}
use Rattle.listing.specs.Input.{input_limit, Asks}
use Rattle.listing.specs.Listing.{listing, malformed}

-- the buffers that are lent: zeros, for as many states as the limit with four inputs and four outputs
unfoldable pub lent : Buffers
lent =
    buffers (replicate {A = ℕ} (state_limit * letter_limit) 0) (replicate {A = ℕ} state_limit 0)
    (replicate {A = ℕ} (state_limit * number_limit) 0) (replicate {A = ℕ} state_limit 0)

-- the text is the listing of what the rule call answers on a request
pub record Answers (i o : ℕ) (mode : Mode) (condition rule text : Text) : Type 0 where
  pub new : Buffers
  pub answer : Answer
  pub solved : RuleSolved mode i o rule condition lent new answer
  pub listed : text ≡ listing i new answer

-- the input is a request, and the text answers it
pub record Request (input text : Text) : Type 0 where
  pub i : ℕ
  pub o : ℕ
  pub mode : Mode
  pub condition : Text
  pub rule : Text
  pub asks : Asks input i o mode condition rule
  pub answers : Answers i o mode condition rule text

-- the input is no request, and the text is refusal 14
pub record NoRequest (input text : Text) : Type 0 where
  pub none : (i o : ℕ) (mode : Mode) (condition rule : Text) → Asks input i o mode condition rule → ⊥
  pub refused : text ≡ malformed

-- what the program prints for an input
abbrev pub Prints : (input text : Text) → Type 0
Prints input text = Request input text ⊎ NoRequest input text

-- the listing call's promise: the output begins with the text as far as it fits, the rest of it is as it was, and r says how much of it is the text's
pub record Listed (input output output' : Text) (r : ℕ) : Type 0 where
  pub text : Text
  pub prints : Prints input text
  pub written : output' ≡ take (length output) text ++ drop (length text) output
  pub count : r ≡ min (length text) (length output)

-- the bytes that the program reads of its input at most: one more than an input may have, so that a longer one is seen as such
abbrev pub input_size : ℕ
input_size = suc input_limit

-- the bytes that it has room for in its output: no text that it prints is longer (proofs/BoundLaws.antt)
abbrev pub output_size : ℕ
output_size = 8192

-- the promise of the program's call: of the bytes that are lent the first `got` are the input, or all of them where `got` is larger. The first r bytes of the
-- output are the whole text that the program prints for it, and the rest of the output is as it was
pub record Responded (bytes : Text) (got : ℕ) (output output' : Text) (r : ℕ) : Type 0 where
  pub input_size_lem : length bytes ≡ input_size
  pub output_size_lem : length output ≡ output_size
  pub text : Text
  pub prints : Prints (take got bytes) text
  pub count : r ≡ length text
  pub whole : take r output' ≡ text
  pub rest : drop r output' ≡ drop r output
