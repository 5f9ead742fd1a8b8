-- The kinds of saved files, by their numbers.
use Rattle.std.specs.Prelude.{Bool, true, false, ℕ, ◌==◌}
use Rattle.scheme.specs.Numbers.{pick}
use Rattle.saved_head.specs.declared.kind.Kind.{Kind}
use Rattle.saved_head.specs.declared.kind.Kind.TheVariants as K

-- the kind of a number, and the number of a kind
abbrev pub kind_for : ℕ → Kind
kind_for k =
    pick (k == 1) K.SecretKey
    (pick (k == 2) K.SignedSecretKey
    (pick (k == 3) K.SwitchingKey
    (pick (k == 4) K.PublicKey
    (pick (k == 5) K.Ciphertexts
    (pick (k == 6) K.Packed
    (pick (k == 7) K.Messages (K.Unknown k)))))))

abbrev pub number_of : Kind → ℕ
number_of K.SecretKey = 1
number_of K.SignedSecretKey = 2
number_of K.SwitchingKey = 3
number_of K.PublicKey = 4
number_of K.Ciphertexts = 5
number_of K.Packed = 6
number_of K.Messages = 7
number_of (K.Unknown k) = k

abbrev pub is_ciphertexts : Kind → Bool
is_ciphertexts K.Ciphertexts = true
is_ciphertexts _ = false

abbrev pub is_packed : Kind → Bool
is_packed K.Packed = true
is_packed _ = false

abbrev pub is_unknown : Kind → Bool
is_unknown (K.Unknown k) = true
is_unknown _ = false
