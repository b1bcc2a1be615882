use Rattle.std.proofs.Common.{◌≡◌, ℕ, ◌<◌, Bool, true, ◌&&◌, ltb, List, [], ◌∷◌, Ok, Err, Result, MatchResult, IsUtf8, IsAscii, sym, refl, subst}
use Rattle.std.proofs.ByRecursion.{IsAscii-from_all, Decides-by_and}
use Rattle.std.proofs.lemmas.Str.{IsUtf8-from_ascii}
use Rattle.std.proofs.lemmas.Bool.Decides.{Decides-ltb}
use Rattle.play.specs.declared.name.Name.{Name}
use Rattle.play.specs.declared.name.Name.TheVariants.{Open, Round, Strike, Mark, Clear, Read, Lamp}
use Rattle.play.specs.Names.{address_of}
use Rattle.play.proofs.name.NameTryFromRefSliceU8.try_from.Goals as goal

abbrev low : List ℕ → Bool
low [] = true
low (b ∷ bs) = ltb b 128 && low bs

low_ascii : (bs : List ℕ) → low bs ≡ true → IsAscii bs
low_ascii bs e = IsAscii-from_all bs ((Decides-by_and (λ b. ltb b 128) (λ b. b < 128) low (λ b. Decides-ltb b 128) refl (λ _ _. refl) bs).0 e)

plain : (k : Name) → IsAscii (address_of k)
plain Open = low_ascii (address_of Open) refl
plain Round = low_ascii (address_of Round) refl
plain Strike = low_ascii (address_of Strike) refl
plain Mark = low_ascii (address_of Mark) refl
plain Clear = low_ascii (address_of Clear) refl
plain Read = low_ascii (address_of Read) refl
plain Lamp = low_ascii (address_of Lamp) refl

either : {T E : Type 0} {P P' : T → Type 0} {Q Q' : E → Type 0} {G : Type 0} (r : Result T E) → MatchResult r P Q → MatchResult r P' Q' → ((x : T) → P x → P' x → G) → ((e : E) → Q e → Q' e → G) → G
either (Ok x) h k f g = f x h k
either (Err e) h k f g = g e h k

pub returns : goal.returns
returns c =
    either c.from_utf8.result c.from_utf8.ensures.cases c.map_or.ensures (λ x p q. rw (sym p.0) q) (λ e p is. rw is (refl, λ k at. p.0 (subst IsUtf8 (sym at) (IsUtf8-from_ascii (address_of k) (plain k)))))
