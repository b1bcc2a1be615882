-- What is written of a byte, of a string, of a packet. Assumes nothing.
use Rattle.std.proofs.Common.{◌≡◌, ◌≢◌, ℕ, ◌+◌, ◌/◌, ◌%◌, ◌<◌, true, false, cond, List, [], ◌∷◌, ◌++◌, length, get_or, take, IfOk, Ok, Err, string_bytes, codes, decimal, Result, String, sym, ap, ◌∙◌, arith}
use Rattle.std.proofs.lemmas.List.{flat_map_more, take_more}
use Rattle.std.proofs.lemmas.Bool.Decides.{nat_tests}
use Rattle.std.proofs.lemmas.Str.Ascii.{encode_ascii}
use Rattle.std.proofs.lemmas.Fmt.{decimal_digit}
use Rattle.std.specs.List.{flat_map}
use lib.Utf8.{encode}
use Rattle.refusals.specs.declared.Refusal.{Refusal}
use Rattle.refusals.specs.declared.Refusal.TheVariants.{BrokenLayout}
use Rattle.refusals.specs.Refusals.{number_of}
use Rattle.packets.specs.Osc.{Content}
use Rattle.packets.specs.Read.{Says, Reads, Meaningless}
use Rattle.packets.specs.declared.message.Message.{Message}
use Rattle.packetdump.specs.Lines.{hex_digit, hex_byte, marked, itself, char_bytes, message_line, Shows}

pub itself_ascii : (low b : ℕ) → itself low b ≡ true → b < 128
itself_ascii low b e = grind (arith, nat_tests)

pub other_marked : (b : ℕ) → marked b ≡ true → b ≢ 34 → b ≡ 92
other_marked b e f = grind (arith, nat_tests)

-- what is shown of a byte
pub char_marked : (low b : ℕ) (xs : List ℕ) → marked b ≡ true → xs ≡ 92 ∷ b ∷ [] → xs ≡ char_bytes low b
unfolding char_bytes
char_marked low b xs e f = f ∙ ap (λ t. cond t (92 ∷ b ∷ []) (cond (itself low b) (b ∷ []) (92 ∷ 120 ∷ hex_byte b))) (sym e)

pub char_itself : (low b : ℕ) (xs : List ℕ) → xs ≡ encode b → marked b ≡ false → itself low b ≡ true → xs ≡ char_bytes low b
unfolding char_bytes
char_itself low b xs g e f =
    g ∙ encode_ascii b (itself_ascii low b f) ∙ (λ i. cond (sym e i) (92 ∷ b ∷ []) (cond (sym f i) (b ∷ []) (92 ∷ 120 ∷ hex_byte b)))

pub char_hex : (low b : ℕ) (h l : List ℕ) → h ≡ hex_digit (b / 16) ∷ [] → l ≡ hex_digit (b % 16) ∷ [] → marked b ≡ false → itself low b ≡ false → (92 ∷ 120 ∷ h) ++ l ≡ char_bytes low b
unfolding char_bytes
char_hex low b h l g k e f =
    (λ i. (92 ∷ 120 ∷ g i) ++ k i) ∙ (λ i. cond (sym e i) (92 ∷ b ∷ []) (cond (sym f i) (b ∷ []) (92 ∷ 120 ∷ hex_byte b)))

-- one more byte, of which f is shown
pub joined_more : (f : ℕ → List ℕ) (xs : List ℕ) (i : ℕ) → i < length xs → flat_map f (take i xs) ++ f (get_or xs i 0) ≡ flat_map f (take (i + 1) xs)
joined_more f xs i l = flat_map_more f [] (take i xs) (get_or xs i 0) ∙ ap (flat_map f) (sym (take_more xs i 0 l))

-- what a packet that was read is shown as
pub message_shows : {Z E : Type 0} (r : Result (String Z) E) (packet : List ℕ) (m : Message) → Reads packet m → ((c : Content) → Says m c → IfOk r (λ s. string_bytes s ≡ message_line c)) → IfOk r (λ s. Shows packet (string_bytes s))
message_shows (Ok s) packet m reads h = record {
  message = λ c means. h reads.content reads.says ∙ ap message_line (means.only reads.content reads.means.encoding);
  refusal = λ none. absurd (none reads.content reads.means.encoding);
}
message_shows (Err e) packet m reads h = tt

pub refusal_shows : {Z E : Type 0} (r : Result (String Z) E) (packet : List ℕ) (e : Refusal) → (e ≡ BrokenLayout) × Meaningless packet → IfOk r (λ s. (words : List ℕ) × (string_bytes s ≡ (codes "refused " ++ (decimal (number_of e) ++ codes ": ")) ++ words)) → IfOk r (λ s. Shows packet (string_bytes s))
refusal_shows (Ok s) packet e why h = record {
  message = λ c means. absurd (why.1 c means.encoding);
  refusal = λ _. (h.0, h.1 ∙ ap (λ n. (codes "refused " ++ (n ++ codes ": ")) ++ h.0) (ap (λ x. decimal (number_of x)) why.0 ∙ decimal_digit 8 (omega arith)));
}
refusal_shows (Err d) packet e why h = tt
