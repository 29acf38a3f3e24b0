-- Going through places one after the other and stopping at the first that fits.
use Rattle.std.specs.Prelude.{ℕ, zero, suc, ◌+◌, ◌≤◌, ◌<◌, ◌≡◌, Bool, true, false, cond}

-- Of the n places j, j + 1, .. the first that fits gives its value; 0 where none fits.
unfoldable pub at_first : (ℕ → Bool) → (ℕ → ℕ) → ℕ → ℕ → ℕ
at_first fits gives j zero = 0
at_first fits gives j (suc n) =
    let later = at_first fits gives (j + 1) n in
    cond (fits j) (gives j) later

-- `at` is the first place from i on that fits.
pub record IsFirst (fits : ℕ → Bool) (i at : ℕ) : Type 0 where
  pub from : i ≤ at
  pub fit : fits at ≡ true
  pub none_before : (k : ℕ) → i ≤ k → k < at → fits k ≡ false

-- The lowest number below n that passes a test; n where none does.
pub record Lowest (test : ℕ → Bool) (n i : ℕ) : Type 0 where
  pub within : i ≤ n
  pub passes : i < n → test i ≡ true
  pub none_before : (j : ℕ) → j < i → test j ≡ false
