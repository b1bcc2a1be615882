-- A vote over a lawful rig: what each good station has of its trios.
use Rattle.std.proofs.Common.{◌≡◌, ℕ, ◌<◌, ◌≤◌, Bool, true, false, cond, ◌≢◌, ◌⊎◌, sym, refl, ap, ◌∙◌, inl, inr, arith}
use Rattle.std.proofs.lemmas.Bool.{cases_eq, cases_lt, cond-true, le-leb, and_from}
use Rattle.std.proofs.lemmas.Bool.Decides.{nat_tests}
use Rattle.sets.specs.Sets.{has}
use Rattle.rigs.specs.Keys.{good_trio, in_trio}
use Rattle.rigs.specs.Lines.{void, silence}
use Rattle.rigs.proofs.Trios.{trio-good}
use Rattle.agreement.specs.Meanings.{LawfulRig}
use Rattle.agreement.specs.Rounds.{Setting, majority, reading, lowest, middle, highest, trio_key, hearing, vote_in, vote}
use Rattle.agreement.proofs.Votes.{Votes}

-- a word is read as itself, and only a word is read as a word
pub reading-word : (words : ℕ → Bool) (w : ℕ) → words w ≡ true → reading words w ≡ w
unfolding reading
reading-word words w h = cond-true (words w) w void h

pub reading-only : (words : ℕ → Bool) (x w : ℕ) → w < 4096 → reading words x ≡ w → x ≡ w
unfolding reading
reading-only words x w small e = at (words x) e
  where
    at : (b : Bool) → cond b x void ≡ w → x ≡ w
    at true f = f
    at false f = absurd (omega (arith, f))

abbrev Two : ℕ → ℕ → ℕ → ℕ → Type 0
Two x y z w = (x ≡ w → y ≡ w → majority x y z ≡ w) × (x ≡ w → z ≡ w → majority x y z ≡ w) × (y ≡ w → z ≡ w → majority x y z ≡ w)

majority-two : (x y z w : ℕ) → Two x y z w
unfolding majority
majority-two x y z w = (λ a b. grind (arith, nat_tests), λ a b. grind (arith, nat_tests), λ a b. grind (arith, nat_tests))

abbrev Source : ℕ → ℕ → ℕ → ℕ → Type 0
Source x y z w = (x ≢ w → (y ≡ w) × (z ≡ w)) × (y ≢ w → (x ≡ w) × (z ≡ w)) × (z ≢ w → (x ≡ w) × (y ≡ w))

majority-source : (x y z w : ℕ) → w ≢ void → majority x y z ≡ w → Source x y z w
unfolding majority
majority-source x y z w d e = (
  λ n. (grind (arith, nat_tests), grind (arith, nat_tests)),
  λ n. (grind (arith, nat_tests), grind (arith, nat_tests)),
  λ n. (grind (arith, nat_tests), grind (arith, nat_tests)),
)

abbrev pub Among : ℕ → ℕ → ℕ → ℕ → Type 0
Among a b c p = (p ≡ a) ⊎ ((p ≡ b) ⊎ (p ≡ c))

pub record Sorted (p q r a b c : ℕ) : Type 0 where
  pub rise : a < b
  pub rise2 : b < c
  pub top : (m : ℕ) → p < m → q < m → r < m → c < m
  pub first : Among a b c p
  pub second : Among a b c q
  pub third : Among a b c r

pub sorted : (p q r : ℕ) → p ≢ q → p ≢ r → q ≢ r → Sorted p q r (lowest p q r) (middle p q r) (highest p q r)
unfolding lowest middle highest
sorted p q r x y z = go (cases_lt p q) (cases_lt q r) (cases_lt p r)
  where
    S : Type 0
    S = Sorted p q r (lowest p q r) (middle p q r) (highest p q r)

    go : (p < q) ⊎ (q ≤ p) → (q < r) ⊎ (r ≤ q) → (p < r) ⊎ (r ≤ p) → S
    go (inl a) (inl b) (inl c) = record { rise = omega arith; rise2 = omega arith; top = omega arith; first = inl (omega arith); second = inr (inl (omega arith)); third = inr (inr (omega arith)) }
    go (inl a) (inl b) (inr c) = absurd (omega arith)
    go (inl a) (inr b) (inl c) = record { rise = omega arith; rise2 = omega arith; top = omega arith; first = inl (omega arith); second = inr (inr (omega arith)); third = inr (inl (omega arith)) }
    go (inl a) (inr b) (inr c) = record { rise = omega arith; rise2 = omega arith; top = omega arith; first = inr (inl (omega arith)); second = inr (inr (omega arith)); third = inl (omega arith) }
    go (inr a) (inl b) (inl c) = record { rise = omega arith; rise2 = omega arith; top = omega arith; first = inr (inl (omega arith)); second = inl (omega arith); third = inr (inr (omega arith)) }
    go (inr a) (inl b) (inr c) = record { rise = omega arith; rise2 = omega arith; top = omega arith; first = inr (inr (omega arith)); second = inl (omega arith); third = inr (inl (omega arith)) }
    go (inr a) (inr b) (inl c) = absurd (omega arith)
    go (inr a) (inr b) (inr c) = record { rise = omega arith; rise2 = omega arith; top = omega arith; first = inr (inr (omega arith)); second = inr (inl (omega arith)); third = inl (omega arith) }

lowest-swap : (p q r : ℕ) → lowest p q r ≡ lowest p r q
unfolding lowest
lowest-swap p q r = omega arith

highest-swap : (p q r : ℕ) → highest p q r ≡ highest p r q
unfolding highest
highest-swap p q r = omega arith

middle-swap : (p q r : ℕ) → middle p q r ≡ middle p r q
unfolding middle
middle-swap p q r = omega (arith, lowest-swap p q r, highest-swap p q r)

lowest-turn : (p q r : ℕ) → lowest p q r ≡ lowest q p r
unfolding lowest
lowest-turn p q r = omega arith

highest-turn : (p q r : ℕ) → highest p q r ≡ highest q p r
unfolding highest
highest-turn p q r = omega arith

middle-turn : (p q r : ℕ) → middle p q r ≡ middle q p r
unfolding middle
middle-turn p q r = omega (arith, lowest-turn p q r, highest-turn p q r)

-- v(p,q,r) is v(p,r,q), whatever the rig
pub vote-swap : (e : Setting) (p q r : ℕ) → vote e p q r ≡ vote e p r q
unfolding vote
vote-swap e p q r =
    let x = lowest-swap p q r in
    let y = middle-swap p q r in
    let z = highest-swap p q r in
    cc

-- A setting in which the rig's laws speak: a good key, stations below 16, and no station casts silence.
pub record Sound (n : ℕ) (e : Setting) : Type 0 where
  pub lawful : LawfulRig e.rig
  pub small : (x : ℕ) → e.words x ≡ true → x < 4096
  pub n16 : n ≤ 16
  pub round1 : 1 ≤ e.round
  pub round64 : e.round ≤ 64
  pub casts : (p : ℕ) → p < n → e.held p ≢ silence

module _ (n : ℕ) (e : Setting) (sound : Sound n e) where
  module _ (a b c : ℕ) (ab : a < b) (bc : b < c) (cn : c < n) where
    among_in : (s t : ℕ) → Among a b c t → in_trio (trio_key e a b c s) t ≡ true
    among_in s t h = grind (arith, nat_tests)

    key : (s : ℕ) → Among a b c s → good_trio (trio_key e a b c s) ≡ true
    key s h =
        trio-good (trio_key e a b c s) (and_from _ _ (le-leb 1 e.round sound.round1) (le-leb e.round 64 sound.round64)) ab bc (omega (arith, sound.n16)) (among_in s s h)

    among_below : (s : ℕ) → Among a b c s → s < n
    among_below s h = omega arith

    heard-spoken : (p s : ℕ) → Among a b c p → Among a b c s → has e.broken p ≡ false → has e.broken s ≡ false
        → hearing e a b c p s ≡ reading e.words (e.held s)
    unfolding hearing
    heard-spoken p s hp hs gp gs =
        ap (reading e.words) (sound.lawful.spoken (trio_key e a b c s) (e.held s) e.broken p (key s hs) (sound.casts s (among_below s hs)) gs (among_in s p hp) gp)

    heard-alike : (p q s : ℕ) → Among a b c p → Among a b c q → Among a b c s → has e.broken p ≡ false → has e.broken q ≡ false
        → hearing e a b c p s ≡ hearing e a b c q s
    unfolding hearing
    heard-alike p q s hp hq hs gp gq =
        ap (reading e.words) (sound.lawful.agreed (trio_key e a b c s) (e.held s) e.broken p q (key s hs) (sound.casts s (among_below s hs)) (among_in s p hp) gp (among_in s q hq) gq)

    in_same : (p q : ℕ) → Among a b c p → Among a b c q → has e.broken p ≡ false → has e.broken q ≡ false → vote_in e a b c p ≡ vote_in e a b c q
    unfolding vote_in
    in_same p q hp hq gp gq =
        let x = heard-alike p q a hp hq (inl refl) gp gq in
        let y = heard-alike p q b hp hq (inr (inl refl)) gp gq in
        let z = heard-alike p q c hp hq (inr (inr refl)) gp gq in
        cc

    -- where two of the three are heard as w by p, so is the vote
    in_two : (p s t w : ℕ) → s ≢ t → Among a b c s → Among a b c t → hearing e a b c p s ≡ w → hearing e a b c p t ≡ w → vote_in e a b c p ≡ w
    unfolding vote_in
    in_two p s t w d hs ht x y = go hs ht
      where
        m : Two (hearing e a b c p a) (hearing e a b c p b) (hearing e a b c p c) w
        m = majority-two (hearing e a b c p a) (hearing e a b c p b) (hearing e a b c p c) w

        go : Among a b c s → Among a b c t → vote_in e a b c p ≡ w
        go (inl i) (inl j) = absurd (omega arith)
        go (inl i) (inr (inl j)) = m.0 (rw i at x) (rw j at y)
        go (inl i) (inr (inr j)) = m.1 (rw i at x) (rw j at y)
        go (inr (inl i)) (inl j) = m.0 (rw j at y) (rw i at x)
        go (inr (inl i)) (inr (inl j)) = absurd (omega arith)
        go (inr (inl i)) (inr (inr j)) = m.2 (rw i at x) (rw j at y)
        go (inr (inr i)) (inl j) = m.1 (rw j at y) (rw i at x)
        go (inr (inr i)) (inr (inl j)) = m.2 (rw j at y) (rw i at x)
        go (inr (inr i)) (inr (inr j)) = absurd (omega arith)

    in_source : (p s t w : ℕ) → w ≢ void → Among a b c s → Among a b c t → s ≢ t → vote_in e a b c p ≡ w → hearing e a b c p s ≢ w → hearing e a b c p t ≡ w
    unfolding vote_in
    in_source p s t w nv hs ht d x y = go hs ht
      where
        m : Source (hearing e a b c p a) (hearing e a b c p b) (hearing e a b c p c) w
        m = majority-source (hearing e a b c p a) (hearing e a b c p b) (hearing e a b c p c) w nv x

        go : Among a b c s → Among a b c t → hearing e a b c p t ≡ w
        go (inl i) (inl j) = absurd (omega arith)
        go (inl i) (inr (inl j)) = rw j (m.0 (rw i at y)).0
        go (inl i) (inr (inr j)) = rw j (m.0 (rw i at y)).1
        go (inr (inl i)) (inl j) = rw j (m.1 (rw i at y)).0
        go (inr (inl i)) (inr (inl j)) = absurd (omega arith)
        go (inr (inl i)) (inr (inr j)) = rw j (m.1 (rw i at y)).1
        go (inr (inr i)) (inl j) = rw j (m.2 (rw i at y)).0
        go (inr (inr i)) (inr (inl j)) = rw j (m.2 (rw i at y)).1
        go (inr (inr i)) (inr (inr j)) = absurd (omega arith)

  vote-turn : (p q r : ℕ) → vote_in e (lowest q p r) (middle q p r) (highest q p r) p ≡ vote e p q r
  unfolding vote
  vote-turn p q r =
      let x = lowest-turn p q r in
      let y = middle-turn p q r in
      let z = highest-turn p q r in
      cc

  pub votes : Votes n e.words (has e.broken) e.held (vote e)
  unfolding vote
  votes = record { swap = vote-swap e; same = same; two = two; source = source }
    where
      same : (p q r : ℕ) → p < n → q < n → r < n → p ≢ q → p ≢ r → q ≢ r → has e.broken p ≡ false → has e.broken q ≡ false → vote e p q r ≡ vote e q p r
      same p q r lp lq lr x y z gp gq =
          let s = sorted q p r (λ i. x (sym i)) z y in
          sym (vote-turn p q r) ∙ in_same _ _ _ s.rise s.rise2 (s.top n lq lp lr) p q s.second s.first gp gq

      two : (p q r w : ℕ) → p < n → q < n → r < n → p ≢ q → p ≢ r → q ≢ r → has e.broken p ≡ false → has e.broken q ≡ false → e.words w ≡ true
          → e.held p ≡ w → e.held q ≡ w → vote e p q r ≡ w
      two p q r w lp lq lr x y z gp gq lw hp hq =
          let s = sorted p q r x y z in
          let cn = s.top n lp lq lr in
          in_two _ _ _ s.rise s.rise2 cn p p q w x s.first s.second
          (heard-spoken _ _ _ s.rise s.rise2 cn p p s.first s.first gp gp ∙ (ap (reading e.words) hp ∙ reading-word e.words w lw))
          (heard-spoken _ _ _ s.rise s.rise2 cn p q s.first s.second gp gq ∙ (ap (reading e.words) hq ∙ reading-word e.words w lw))

      source : (p q r w : ℕ) → p < n → q < n → r < n → p ≢ q → p ≢ r → q ≢ r → has e.broken p ≡ false → e.words w ≡ true → vote e p q r ≡ w
          → (e.held p ≡ w) ⊎ ((has e.broken q ≡ false → e.held q ≡ w) × (has e.broken r ≡ false → e.held r ≡ w))
      source p q r w lp lq lr x y z gp lw v =
          let s = sorted p q r x y z in
          let cn = s.top n lp lq lr in
          let only = λ (t : ℕ) (ht : Among (lowest p q r) (middle p q r) (highest p q r) t) (gt : has e.broken t ≡ false) (h : hearing e (lowest p q r) (middle p q r) (highest p q r) p t ≡ w). reading-only e.words (e.held t) w (sound.small w lw) (sym (heard-spoken _ _ _ s.rise s.rise2 cn p t s.first ht gp gt) ∙ h) in
          elim (cases_eq (hearing e (lowest p q r) (middle p q r) (highest p q r) p p) w) [
            | inl i ↦ inl (only p s.first gp i)
            | inr i ↦ inr (
              (λ gq. only q s.second gq (in_source _ _ _ s.rise s.rise2 cn p p q w (omega (arith, sound.small w lw)) s.first s.second x v i)),
              (λ gr. only r s.third gr (in_source _ _ _ s.rise s.rise2 cn p p r w (omega (arith, sound.small w lw)) s.first s.third y v i)),
            )
          ]
