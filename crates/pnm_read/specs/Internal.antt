-- Words that no contract of an exported function reaches.
pub mod Awaiting
pub mod BufferedReaders
pub mod ImageSizes
pub mod Leading
pub mod LineWalks
pub mod Magics
pub mod PamScanners
pub mod RasterRows
pub mod RawParts
pub mod Reads
pub mod Saturation
pub mod Scanners
pub mod Scans
pub mod Units
