-- What follows for every word kind: its words, and the numbers that are words.
use Rattle.std.proofs.Common.{◌≡◌, ℕ, ◌≤◌, true, is_some, Some, None, Option, sym, refl, ap, ◌∙◌, arith}
use Rattle.std.proofs.lemmas.Bool.{both_ways, lt-ltb, ltb-true}
use Rattle.words.specs.Kinds.{is_word, Back, Only, Small, NotEmpty, Sized, Full}

module _ {W : Type 0} (code : W → ℕ) (word : ℕ → Option W) where
  -- the code of a word is one
  pub code-is-word : Back code word → (w : W) → is_word word (code w) ≡ true
  code-is-word back w = ap is_some (back w)

  -- two words with one code are one
  pub same_word : Back code word → (w w' : W) → code w ≡ code w' → w ≡ w'
  same_word back w w' e =
      let a = back w in
      let b = back w' in
      let c = ap word e in
      cc

  -- a number that is a word's code has its word
  pub word-there : Only code word → (x : ℕ) → is_word word x ≡ true → (w : W) × (word x ≡ Some w) × (code w ≡ x)
  word-there only x e = at (word x) refl e
    where
      at : (o : Option W) → word x ≡ o → is_some o ≡ true → (w : W) × (word x ≡ Some w) × (code w ≡ x)
      at None f t = absurd (both_ways _ refl t)
      at (Some w) f t = (w, f, only x w f)

module _ {W : Type 0} (size : ℕ) (word : ℕ → Option W) (sized : Sized size) (full : Full size word) where
  pub small-words : Small word
  small-words x e = let l = ltb-true x size (sym (full x) ∙ e) in omega (arith, sized.1)

  pub some_word : NotEmpty word
  some_word = (0, full 0 ∙ lt-ltb 0 size (omega (arith, sized.0)))

-- no number from 4,096 on leads to a word
pub none_above : {W : Type 0} (word : ℕ → Option W) → Small word → (x : ℕ) → 4096 ≤ x → word x ≡ None
none_above {W = W} word small x l = at (word x) refl
  where
    at : (o : Option W) → word x ≡ o → word x ≡ None
    at None f = f
    at (Some w) f = absurd (omega (arith, small x (ap is_some f)))
