-- The stations of a sheet's entries, and the entries of one trio.
use Rattle.std.proofs.Common.{◌≡◌, ℕ, ◌+◌, ◌*◌, ◌/◌, ◌%◌, ◌<◌, ◌≤◌, true, false, eqb, ◌≢◌, ◌⊎◌, List, length, get_or, drop, replicate, set, sym, refl, ap, ◌∙◌, inl, inr, ⊎_elim, arith, get_or-set_other, get_or-set_same}
use Rattle.std.proofs.lemmas.List.{drop-set-lt, length-set, length-replicate, get_or-replicate}
use Rattle.std.proofs.Math.ListN.{drop_of_length-le}
use Rattle.std.proofs.lemmas.Bool.{cases_Bool, cases_eq, eqb-true, eq-eqb, and_parts, and_from, both_ways, cond-true, cond-false}
use Rattle.std.proofs.lemmas.Bool.Decides.{nat_tests}
use Rattle.agreement.specs.Rounds.{Setting, lowest, middle, highest, vote_in, vote}
use Rattle.rigs.specs.Lines.{void}
use Rattle.agreement.specs.Sheets.{three_of, vote_entry, vote_sheet}
use Rattle.agreement.proofs.Vote.{sorted, Among}
use Rattle.rounds.proofs.Fills.{filled_from}
use Rattle.rounds.specs.Sheets.{put_vote, put_trio, three, low, mid, high, with_lowest, with_pair, with_trio, Wrote}

pub record Three (n p q r : ℕ) : Type 0 where
  pub lp : p < n
  pub lq : q < n
  pub lr : r < n
  pub pq : p ≢ q
  pub pr : p ≢ r
  pub qr : q ≢ r

three-facts : (n p q r : ℕ) → three_of n p q r ≡ true → Three n p q r
three-facts n p q r h =
    record { lp = grind (arith, nat_tests); lq = grind (arith, nat_tests); lr = grind (arith, nat_tests); pq = λ e. grind (arith, nat_tests); pr = λ e. grind (arith, nat_tests); qr = λ e. grind (arith, nat_tests) }

pub three_from : (n p q r : ℕ) → Three n p q r → three_of n p q r ≡ true
three_from n p q r t =
    let a = t.lp in
    let b = t.lq in
    let c = t.lr in
    let d = t.pq in
    let e = t.pr in
    let f = t.qr in
    grind (arith, nat_tests)

-- the stations of an entry of three different stations, in order
pub record Rising (n k : ℕ) : Type 0 where
  pub first : low k < mid k
  pub second : mid k < high k
  pub third : high k < n

pub rising : (n k : ℕ) → three n k ≡ true → Rising n k
unfolding three low mid high
rising n k h =
    let t = three-facts n (k / 256) (k / 16 % 16) (k % 16) h in
    let s = sorted (k / 256) (k / 16 % 16) (k % 16) t.pq t.pr t.qr in
    record { first = s.rise; second = s.rise2; third = s.top n t.lp t.lq t.lr }

-- the tests of the three loops hold of no entry before the first turn, and of each before the last
pub low_below : (n k : ℕ) → three n k ≡ true → low k < n
low_below n k h = let r = rising n k h in omega (arith, r.first, r.second, r.third)

pub mid_above : (n a k : ℕ) → with_lowest n a k ≡ true → a + 1 ≤ mid k
mid_above n a k h =
    let t = and_parts (three n k) (eqb (low k) a) h in
    omega (arith, (rising n k t.0).first, eqb-true (low k) a t.1)

pub mid-below : (n a k : ℕ) → with_lowest n a k ≡ true → mid k < n
mid-below n a k h =
    let r = rising n k (and_parts (three n k) (eqb (low k) a) h).0 in
    omega (arith, r.second, r.third)

pub high_above : (n a b k : ℕ) → with_pair n a b k ≡ true → b + 1 ≤ high k
high_above n a b k h =
    let t = and_parts (with_lowest n a k) (eqb (mid k) b) h in
    omega (arith, (rising n k (and_parts (three n k) (eqb (low k) a) t.0).0).second, eqb-true (mid k) b t.1)

pub high-below : (n a b k : ℕ) → with_pair n a b k ≡ true → high k < n
high-below n a b k h =
    (rising n k (and_parts (three n k) (eqb (low k) a) (and_parts (with_lowest n a k) (eqb (mid k) b) h).0).0).third

-- What is written for one trio.
put_other : (s : List ℕ) (p q r v k : ℕ) → k ≢ 256 * p + 16 * q + r → k ≢ 256 * p + 16 * r + q → get_or (put_vote s p q r v) k 0 ≡ get_or s k 0
put_other s p q r v k x y =
    get_or-set_other (set s (256 * p + 16 * q + r) v) (256 * p + 16 * r + q) k v 0 y ∙ get_or-set_other s (256 * p + 16 * q + r) k v 0 x

put-here : (s : List ℕ) (p q r v k : ℕ) → 4096 ≤ length s → p < 16 → q < 16 → r < 16 → (k ≡ 256 * p + 16 * q + r) ⊎ (k ≡ 256 * p + 16 * r + q) → get_or (put_vote s p q r v) k 0 ≡ v
put-here s p q r v k long lp lq lr at =
    ⊎_elim
    (λ (z : k ≡ 256 * p + 16 * r + q). ap (λ (x : ℕ). get_or (put_vote s p q r v) x 0) z ∙ get_or-set_same (set s (256 * p + 16 * q + r) v) (256 * p + 16 * r + q) v 0 (simp length-set (omega arith)))
    (λ (ne : k ≢ 256 * p + 16 * r + q).
    get_or-set_other (set s (256 * p + 16 * q + r) v) (256 * p + 16 * r + q) k v 0 ne
    ∙ ⊎_elim
    (λ (z : k ≡ 256 * p + 16 * q + r). ap (λ (x : ℕ). get_or (set s (256 * p + 16 * q + r) v) x 0) z ∙ get_or-set_same s (256 * p + 16 * q + r) v 0 (omega arith))
    (λ z. absurd (ne z)) at)
    (cases_eq k (256 * p + 16 * r + q))

put-length : (s : List ℕ) (p q r v : ℕ) → length (put_vote s p q r v) ≡ length s
put-length s p q r v = length-set (set s (256 * p + 16 * q + r) v) (256 * p + 16 * r + q) v ∙ length-set s (256 * p + 16 * q + r) v

put_rest : (s : List ℕ) (p q r v : ℕ) → p < 16 → q < 16 → r < 16 → drop 4096 (put_vote s p q r v) ≡ drop 4096 s
put_rest s p q r v lp lq lr = drop-set-lt 4096 _ (256 * p + 16 * r + q) v (omega arith) ∙ drop-set-lt 4096 s (256 * p + 16 * q + r) v (omega arith)

module _ (n : ℕ) (e : Setting) (a b c : ℕ) (ab : a < b) (bc : b < c) (cn : c < n) (few : n ≤ 16) where
  trio_true : (k x y z : ℕ) → Three n x y z → (k ≡ 256 * x + 16 * y + z) → lowest x y z ≡ a → middle x y z ≡ b → highest x y z ≡ c → with_trio n a b c k ≡ true
  unfolding three low mid high
  trio_true k x y z t h el em eh =
      let lx = t.lp in
      let ly = t.lq in
      let lz = t.lr in
      let i : k / 256 ≡ x = omega arith in
      let j : k / 16 % 16 ≡ y = omega arith in
      let l : k % 16 ≡ z = omega arith in
      rw (i, j, l) (and_from _ _ (and_from _ _ (and_from _ _ (three_from n x y z t) (eq-eqb _ _ el)) (eq-eqb _ _ em)) (eq-eqb _ _ eh))

  -- an entry of the trio is one of six, and of p, has what p has of the trio
  pub record InTrio (k : ℕ) : Type 0 where
    pub is : vote_entry n e k ≡ vote_in e a b c (k / 256)
    pub one : Among a b c (k / 256)
    pub two : Among a b c (k / 16 % 16)
    pub other : Among a b c (k % 16)
    pub apart : Three n (k / 256) (k / 16 % 16) (k % 16)

  in_trio_lem : (k : ℕ) → with_trio n a b c k ≡ true → InTrio k
  unfolding three low mid high vote_entry vote
  in_trio_lem k h =
      let t3 = and_parts (with_pair n a b k) (eqb (high k) c) h in
      let t2 = and_parts (with_lowest n a k) (eqb (mid k) b) t3.0 in
      let t1 = and_parts (three n k) (eqb (low k) a) t2.0 in
      let t = three-facts n (k / 256) (k / 16 % 16) (k % 16) t1.0 in
      let s = sorted (k / 256) (k / 16 % 16) (k % 16) t.pq t.pr t.qr in
      let el : lowest (k / 256) (k / 16 % 16) (k % 16) ≡ a = eqb-true _ _ t1.1 in
      let em : middle (k / 256) (k / 16 % 16) (k % 16) ≡ b = eqb-true _ _ t2.1 in
      let eh : highest (k / 256) (k / 16 % 16) (k % 16) ≡ c = eqb-true _ _ t3.1 in
      record {
        is = cond-true _ _ _ t1.0 ∙ rw (el, em, eh) refl;
        one = rw (el, em, eh) at s.first;
        two = rw (el, em, eh) at s.second;
        other = rw (el, em, eh) at s.third;
        apart = t;
      }

  abbrev v : ℕ → ℕ
  v = vote_in e a b c

  abbrev after : List ℕ → List ℕ
  after s = put_trio s a b c v

  -- where k is no entry of the trio
  outside : (s : List ℕ) (k : ℕ) → with_trio n a b c k ≡ false → get_or (after s) k 0 ≡ get_or s k 0
  unfolding lowest middle highest
  outside s k h =
      let no : (x y z : ℕ) → Three n x y z → lowest x y z ≡ a → middle x y z ≡ b → highest x y z ≡ c → k ≢ 256 * x + 16 * y + z = λ x y z t el em eh w. both_ways (with_trio n a b c k) h (trio_true k x y z t w el em eh) in
      put_other _ c a b (v c) k
      (no c a b (record { lp = cn; lq = omega arith; lr = omega arith; pq = λ w. omega arith; pr = λ w. omega arith; qr = λ w. omega arith }) (omega arith) (omega arith) (omega arith))
      (no c b a (record { lp = cn; lq = omega arith; lr = omega arith; pq = λ w. omega arith; pr = λ w. omega arith; qr = λ w. omega arith }) (omega arith) (omega arith) (omega arith))
      ∙ put_other _ b a c (v b) k
      (no b a c (record { lp = omega arith; lq = omega arith; lr = cn; pq = λ w. omega arith; pr = λ w. omega arith; qr = λ w. omega arith }) (omega arith) (omega arith) (omega arith))
      (no b c a (record { lp = omega arith; lq = cn; lr = omega arith; pq = λ w. omega arith; pr = λ w. omega arith; qr = λ w. omega arith }) (omega arith) (omega arith) (omega arith))
      ∙ put_other s a b c (v a) k
      (no a b c (record { lp = omega arith; lq = omega arith; lr = cn; pq = λ w. omega arith; pr = λ w. omega arith; qr = λ w. omega arith }) (omega arith) (omega arith) (omega arith))
      (no a c b (record { lp = omega arith; lq = cn; lr = omega arith; pq = λ w. omega arith; pr = λ w. omega arith; qr = λ w. omega arith }) (omega arith) (omega arith) (omega arith))

  abbrev At : ℕ → ℕ → ℕ → ℕ → Type 0
  At k x y z = (k ≡ 256 * x + 16 * y + z) ⊎ (k ≡ 256 * x + 16 * z + y)

  digits : (k : ℕ) → k < 4096 → k ≡ 256 * (k / 256) + 16 * (k / 16 % 16) + k % 16
  digits k h = omega arith

  -- the other two of three that are among a, b, c
  pair : (k x y z : ℕ) → k < 4096 → k / 256 ≡ x → (k / 16 % 16 ≢ x) → (k % 16 ≢ x) → (k / 16 % 16 ≢ k % 16)
      → ((k / 16 % 16 ≡ x) ⊎ ((k / 16 % 16 ≡ y) ⊎ (k / 16 % 16 ≡ z))) → ((k % 16 ≡ x) ⊎ ((k % 16 ≡ y) ⊎ (k % 16 ≡ z))) → At k x y z
  pair k x y z lt p nq nr d (inl q) r = absurd (nq q)
  pair k x y z lt p nq nr d (inr q) (inl r) = absurd (nr r)
  pair k x y z lt p nq nr d (inr (inl q)) (inr (inl r)) = absurd (d (q ∙ sym r))
  pair k x y z lt p nq nr d (inr (inl q)) (inr (inr r)) = inl (omega (arith, digits k lt))
  pair k x y z lt p nq nr d (inr (inr q)) (inr (inl r)) = inr (omega (arith, digits k lt))
  pair k x y z lt p nq nr d (inr (inr q)) (inr (inr r)) = absurd (d (q ∙ sym r))

  second-first : (x y z q : ℕ) → Among x y z q → Among y x z q
  second-first x y z q (inl h) = inr (inl h)
  second-first x y z q (inr (inl h)) = inl h
  second-first x y z q (inr (inr h)) = inr (inr h)

  third-first : (x y z q : ℕ) → Among x y z q → Among z x y q
  third-first x y z q (inl h) = inr (inl h)
  third-first x y z q (inr (inl h)) = inr (inr h)
  third-first x y z q (inr (inr h)) = inl h

  -- where k is an entry of the trio
  inside : (s : List ℕ) (k : ℕ) → 4096 ≤ length s → k < 4096 → InTrio k → get_or (after s) k 0 ≡ v (k / 256)
  inside s k long lt t = go t.one
    where
      at : (x y z : ℕ) → k / 256 ≡ x → Among x y z (k / 16 % 16) → Among x y z (k % 16) → At k x y z
      at x y z p two other = pair k x y z lt p (λ w. t.apart.pq (p ∙ sym w)) (λ w. t.apart.pr (p ∙ sym w)) t.apart.qr two other

      go : Among a b c (k / 256) → get_or (after s) k 0 ≡ v (k / 256)
      go (inl p) =
          put_other _ c a b (v c) k (λ w. omega arith) (λ w. omega arith) ∙ put_other _ b a c (v b) k (λ w. omega arith) (λ w. omega arith)
          ∙ put-here s a b c (v a) k long (omega arith) (omega arith) (omega arith) (at a b c p t.two t.other) ∙ ap v (sym p)
      go (inr (inl p)) =
          put_other _ c a b (v c) k (λ w. omega arith) (λ w. omega arith)
          ∙ put-here _ b a c (v b) k (omega (arith, long, put-length s a b c (v a))) (omega arith) (omega arith) (omega arith) (at b a c p (second-first a b c _ t.two) (second-first a b c _ t.other)) ∙ ap v (sym p)
      go (inr (inr p)) =
          put-here _ c a b (v c) k (omega (arith, long, put-length s a b c (v a), put-length (put_vote s a b c (v a)) b a c (v b))) (omega arith) (omega arith) (omega arith) (at c a b p (third-first a b c _ t.two) (third-first a b c _ t.other)) ∙ ap v (sym p)

  -- the six entries of the trio are overwritten by what the three have of it
  pub trio_wrote : (s : List ℕ) → 4096 ≤ length s → Wrote (with_trio n a b c) (vote_entry n e) (after s) s
  trio_wrote s long =
      record {
        each = λ k lt.
            ⊎_elim
            (λ h. let t = in_trio_lem k h in inside s k long lt t ∙ sym t.is ∙ sym (cond-true _ _ _ h))
            (λ h. outside s k h ∙ sym (cond-false _ _ _ h))
            (cases_Bool (with_trio n a b c k));
        rest = put_rest _ c a b (v c) (omega arith) (omega arith) (omega arith) ∙ put_rest _ b a c (v b) (omega arith) (omega arith) (omega arith) ∙ put_rest s a b c (v a) (omega arith) (omega arith) (omega arith);
        long = put-length _ c a b (v c) ∙ put-length _ b a c (v b) ∙ put-length s a b c (v a);
      }

none-there : (n : ℕ) (e : Setting) (k : ℕ) → three n k ≡ false → vote_entry n e k ≡ void
unfolding three vote_entry
none-there n e k h = cond-false _ _ _ h

-- all votes, written to 4,096 entries of void
pub all_wrote : (n : ℕ) (e : Setting) (s blank old : List ℕ) → length old ≡ 4096 → blank ≡ replicate 4096 void → Wrote (three n) (vote_entry n e) s blank → s ≡ vote_sheet n e old
unfolding vote_sheet
all_wrote n e s blank old few void-all w =
    let long : length blank ≡ 4096 = ap length void-all ∙ length-replicate 4096 void in
    filled_from (vote_entry n e) 4096 s old (omega (arith, w.long, long))
    (λ k lt. w.each k lt
    ∙ ⊎_elim (λ h. cond-true _ _ _ h) (λ h. cond-false _ _ _ h ∙ ap (λ (x : List ℕ). get_or x k 0) void-all ∙ get_or-replicate 4096 k void 0 lt ∙ sym (none-there n e k h)) (cases_Bool (three n k)))
    (drop_of_length-le s {i = 4096} (omega (arith, w.long, long)) ∙ sym (drop_of_length-le old {i = 4096} (omega (arith, few))))
