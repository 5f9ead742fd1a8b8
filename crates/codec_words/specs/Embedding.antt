-- How a message is lifted.
use Rattle.std.specs.Prelude.{ℕ}
use Rattle.scheme.specs.Codec as S
use Rattle.codec_words.specs.declared.embedding.PlaintextEmbedding.{PlaintextEmbedding}
use Rattle.codec_words.specs.declared.embedding.PlaintextEmbedding.TheVariants.{Unsigned, Centered}

-- the embedding of the scheme
abbrev pub meant_embedding : PlaintextEmbedding → S.Embedding
meant_embedding Unsigned = S.Unsigned
meant_embedding Centered = S.Centered

-- encode(m), for q and t
abbrev pub encode_word : PlaintextEmbedding → ℕ → ℕ → ℕ → ℕ
encode_word e q t x = S.encode_as (meant_embedding e) q t x
