-- How a value of 32 words lies in them.
use Rattle.std.proofs.Common.{◌≡◌, ◌^◌, ◌<◌, length, arith}
use Rattle.std.specs.Prelude.{All}
use Rattle.board_layout.specs.Words.{AreWordsOf}
use Rattle.board_bench.specs.declared.block.Block.{Block}
use Rattle.gullinsu.specs.OwnTypes.{whole_words}

-- all 32 words are written, and no bytes lie behind them
pub block_words : (x : Block) → (length x.words ≡ 32) × All (λ word. word < 2 ^ 64) x.words → AreWordsOf 256 32 x.words
block_words x h = whole_words x.words 256 32 (omega (arith, h.0)) (omega (arith, h.0)) h.1
